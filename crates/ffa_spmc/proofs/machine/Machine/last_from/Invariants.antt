-- SPDX-License-Identifier: MIT OR Apache-2.0
use Rattle.std.proofs.Common.{◌≡◌, ◌+◌, ◌-◌, ◌<◌, length}
use Rattle.ffa_model.specs.Certificate.{last_from}
use Rattle.ffa_spmc.proofs.machine.Machine.last_from.Given as goal

-- the run goes on from this page too
abbrev pub invariant-loop-last : goal.invariant-loop-last
invariant-loop-last g l =
    let s = l.self.state in
    record {
      size : l.pages ≡ length s.pages;
      inside : l.last < length s.pages;
      run : last_from s l.fn.from.0 (length s.pages - (l.fn.from.0 + 1)) ≡ last_from s l.last (length s.pages - (l.last + 1));
    }

abbrev pub decreases-loop-last : goal.decreases-loop-last
decreases-loop-last g l = l.pages - l.last
