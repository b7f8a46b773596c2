-- SPDX-License-Identifier: MIT OR Apache-2.0
use Rattle.std.proofs.Common.{◌+◌, ◌*◌, ◌≤◌, take}
use Rattle.arrayvec.specs.ArrayVec.{array_vec_len}
use Rattle.play_trace.proofs.Operations.{Told}
use Rattle.play_trace.proofs.operation.push_call.Given as goal

abbrev pub invariant-loop-value : goal.invariant-loop-value
invariant-loop-value l = record {
  told : Told l.line.items (take l.value-index l.value-items);
  len : array_vec_len l.line ≤ 4 + 17 * l.value-index;
}
