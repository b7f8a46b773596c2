-- SPDX-License-Identifier: MIT OR Apache-2.0
use Rattle.std.proofs.Common.{◌≡◌, take}
use Rattle.arrayvec.specs.ArrayVec.{array_vec_len}
use Rattle.ffa_stage2.specs.Layout.{lists_of}
use Rattle.ffa_model.specs.Regions.{regions_of_each}
use Rattle.ffa_stage2.proofs.layout.Layout.of.Given as goal

-- the endpoints so far
abbrev pub invariant-loop-endpoint : goal.invariant-loop-endpoint
invariant-loop-endpoint l = record {
  count : array_vec_len l.regions ≡ l.endpoint-index;
  lists : lists_of l.regions.items ≡ regions_of_each (take l.endpoint-index l.endpoint-items);
}
