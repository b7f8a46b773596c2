-- SPDX-License-Identifier: MIT OR Apache-2.0
use Rattle.std.proofs.Common.{◌≡◌, ◌+◌, ◌*◌, ◌++◌}
use Rattle.std.specs.List.{flat_map}
use Rattle.arrayvec.specs.ArrayVec.{array_vec_len}
use Rattle.ffa_model.specs.Lists.{listed}
use Rattle.ffa_model.specs.Identifiers.{identifier}
use Rattle.ffa_model.specs.Access.{access}
use Rattle.play_trace.specs.TraceText.{spaced, rights_text}
use Rattle.play_player.proofs.show.push_accesses.Given as goal

-- the endpoints so far
abbrev pub invariant-loop-place : goal.invariant-loop-place
invariant-loop-place g l = record {
  so_far : l.text.items ≡ l.initial.text.items ++ flat_map (λ e. spaced (rights_text (access (g.P.Playable.bench l.fn.machine).state e l.page.0))) (listed l.place identifier);
  room : array_vec_len l.text ≡ array_vec_len l.initial.text + 4 * l.place;
}
