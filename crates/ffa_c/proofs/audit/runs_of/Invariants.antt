-- SPDX-License-Identifier: MIT OR Apache-2.0
use Rattle.std.proofs.Common.{◌≡◌, [], drop}
use Rattle.ffa_c.specs.Audit.{all_given, run_given}
use Rattle.ffa_c.proofs.audit.runs_of.Given as goal

-- the runs that are left, told after those so far, give what all runs give
abbrev pub invariant-loop-told : goal.invariant-loop-told
invariant-loop-told l = all_given run_given l.runs.items (drop l.told-index l.given) ≡ all_given run_given [] l.given
