-- SPDX-License-Identifier: MIT OR Apache-2.0
use Rattle.std.proofs.Common.{◌≡◌, true}
use Rattle.std.specs.List.{list_all}
use Rattle.ffa_model.specs.Lists.{listed}
use Rattle.ffa_model.specs.Identifiers.{identifier}
use Rattle.ffa_model.specs.Access.{access}
use Rattle.ffa_model.specs.Alike.{is_same_right}
use Rattle.play_player.proofs.show.has_same_accesses.Given as goal

-- the endpoints so far
abbrev pub invariant-loop-place : goal.invariant-loop-place
invariant-loop-place g l =
    list_all (λ e. is_same_right (access (g.P.Playable.bench l.machine).state e l.page.0) (access (g.P.Playable.bench l.machine).state e l.other.0)) (listed l.place identifier) ≡ true
