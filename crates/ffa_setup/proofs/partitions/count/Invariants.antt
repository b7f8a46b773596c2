-- SPDX-License-Identifier: MIT OR Apache-2.0
use Rattle.std.proofs.Common.{◌≡◌, ◌+◌, ◌≤◌, length, drop}
use Rattle.ffa_setup.proofs.Selected.{selected_from}
use Rattle.ffa_setup.proofs.partitions.count.Given as goal

abbrev pub invariant-loop-place : goal.invariant-loop-place
invariant-loop-place l = record {
  counted : l.count + length (selected_from l.place (drop l.place l.endpoint-items) l.uuid) ≡ length (selected_from 0 l.endpoint-items l.uuid);
  few : l.count ≤ l.place;
}
