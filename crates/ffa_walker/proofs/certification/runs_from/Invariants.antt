-- SPDX-License-Identifier: MIT OR Apache-2.0
use Rattle.std.proofs.Common.{◌≡◌, ℕ, ◌≤◌, length}
use Rattle.ffa_model.specs.Certified.{access_in}
use Rattle.ffa_walker.proofs.certification.runs_from.Given as goal

-- the runs that are left say the same of the page and those behind it
abbrev pub invariant-loop-rest : goal.invariant-loop-rest
invariant-loop-rest l = (place p : ℕ) → l.page ≤ p → access_in l.rest place p ≡ access_in l.runs place p

abbrev pub decreases-loop-rest : goal.decreases-loop-rest
decreases-loop-rest l = length l.rest
