-- SPDX-License-Identifier: MIT OR Apache-2.0
use Rattle.std.proofs.Common.{◌≡◌, ◌*◌, ◌-◌, ◌≤◌, ◌++◌, length, drop, flat_map}
use Rattle.ffa_model.specs.Setup.{info_of}
use Rattle.ffa_setup.proofs.Selected.{selected_from}
use Rattle.ffa_setup.proofs.partitions.info_bytes.Given as goal

abbrev pub invariant-loop-place : goal.invariant-loop-place
invariant-loop-place l = record {
  written : l.bytes.items ++ flat_map (info_of l.manifest.ffa l.version l.uuid) (selected_from l.place (drop l.place l.endpoint-items) l.uuid) ≡ flat_map (info_of l.manifest.ffa l.version l.uuid) (selected_from 0 l.endpoint-items l.uuid);
  fits : length l.bytes.items ≤ 24 * (l.place - 1);
}
