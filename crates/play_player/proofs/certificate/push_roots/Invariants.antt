-- SPDX-License-Identifier: MIT OR Apache-2.0
use Rattle.std.proofs.Common.{◌≡◌, ◌+◌, ◌*◌, ◌++◌}
use Rattle.std.specs.List.{flat_map, range_with_len}
use Rattle.arrayvec.specs.ArrayVec.{array_vec_len}
use Rattle.play_trace.specs.TraceText.{root_text}
use Rattle.play_player.proofs.certificate.push_roots.Given as goal

-- the endpoints so far
abbrev pub invariant-loop-place : goal.invariant-loop-place
invariant-loop-place g l = record {
  so_far : l.text.items ≡ l.initial.text.items ++ flat_map (root_text (g.P.Playable.bench l.machine).state) (range_with_len 0 l.place);
  room : array_vec_len l.text ≡ array_vec_len l.initial.text + 19 * l.place;
}
