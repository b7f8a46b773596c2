-- SPDX-License-Identifier: MIT OR Apache-2.0
use Rattle.std.proofs.Common.{◌≡◌, ◌-◌, ◌≤◌, ◌++◌, length}
use Rattle.ffa_model.specs.Certificate.{certificate, runs_from}
use Rattle.play_player.proofs.certificate.runs.Given as goal

-- the runs so far, and those that are left
abbrev pub invariant-loop-from : goal.invariant-loop-from
invariant-loop-from g l =
    let s = (g.P.Playable.bench l.machine).state in
    record {
      passed : length l.runs.items ≤ l.from;
      inside : l.from ≤ length s.pages;
      all : certificate s ≡ l.runs.items ++ runs_from s l.from (length s.pages - length l.runs.items);
    }

abbrev pub decreases-loop-from : goal.decreases-loop-from
decreases-loop-from g l = length (g.P.Playable.bench l.machine).state.pages - l.from
