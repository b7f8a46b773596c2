-- SPDX-License-Identifier: MIT OR Apache-2.0
use Rattle.std.proofs.Common.{◌≡◌, ◌-◌, ◌≤◌, drop, replicate}
use Rattle.play_trace.proofs.operation.registers_told.Given as goal

abbrev pub invariant-loop-count : goal.invariant-loop-count
invariant-loop-count l = record {
  some : 1 ≤ l.count;
  few : l.count ≤ 8;
  zeros : drop l.count l.x ≡ replicate (8 - l.count) 0;
}

abbrev pub decreases-loop-count : goal.decreases-loop-count
decreases-loop-count l = l.count
