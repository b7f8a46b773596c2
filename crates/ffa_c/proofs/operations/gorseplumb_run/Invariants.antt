-- SPDX-License-Identifier: MIT OR Apache-2.0
use Rattle.std.proofs.Common.{◌≡◌, drop, take}
use Rattle.ffa_c.specs.Operations.{HaveRun}
use Rattle.ffa_c.proofs.operations.gorseplumb_run.Given as goal

-- the operations so far were done, and what stands behind their outcomes is as it was
abbrev pub invariant-loop-place : goal.invariant-loop-place
invariant-loop-place l = record {
  run : HaveRun l.fn.machine.held.value (take l.place l.operations) (take l.place l.outcomes) l.machine.held.value;
  rest : drop l.place l.outcomes ≡ drop l.place l.fn.outcomes;
}
