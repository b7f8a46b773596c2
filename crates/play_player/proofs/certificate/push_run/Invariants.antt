-- SPDX-License-Identifier: MIT OR Apache-2.0
use Rattle.std.proofs.Common.{◌≡◌, ◌+◌, ◌*◌, ◌++◌, take}
use Rattle.std.specs.List.{flat_map}
use Rattle.arrayvec.specs.ArrayVec.{array_vec_len}
use Rattle.play_trace.specs.TraceText.{rights_text, spaced}
use Rattle.play_player.proofs.certificate.push_run.Given as goal

-- the endpoints so far
abbrev pub invariant-loop-right : goal.invariant-loop-right
invariant-loop-right g l = record {
  so_far : l.text.items ≡ l.initial.text.items ++ flat_map (λ right. spaced (rights_text right)) (take l.right-index l.run.access);
  room : array_vec_len l.text ≡ array_vec_len l.initial.text + 4 * l.right-index;
}
