-- SPDX-License-Identifier: MIT OR Apache-2.0
use Rattle.ffa_memdesc.proofs.Apart.{IsBelow, EndsBefore}
use Rattle.ffa_memdesc.proofs.ranges.are_in_order.Given as goal

abbrev pub invariant-loop-place : goal.invariant-loop-place
invariant-loop-place l = IsBelow l.ranges l.place l.end × EndsBefore l.ranges l.place
