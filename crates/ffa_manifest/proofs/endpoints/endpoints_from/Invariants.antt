-- SPDX-License-Identifier: MIT OR Apache-2.0
use Rattle.std.proofs.Common.{◌≡◌, [], length, drop}
use Rattle.toml.specs.View.{items_view}
use Rattle.ffa_manifest.specs.RegionSpace.{is_in}
use Rattle.ffa_manifest.specs.Reading.{read_each}
use Rattle.ffa_manifest.specs.Endpoints.{next_endpoint}
use Rattle.ffa_manifest.proofs.endpoints.endpoints_from.Given as goal

-- the values that are left, read after those so far, give what all values give
abbrev pub invariant-loop-value : goal.invariant-loop-value
invariant-loop-value l = record {
  count : length l.endpoints.items ≡ l.value-index;
  rest : read_each (next_endpoint l.ffa (is_in l.space)) l.endpoints.items (items_view (drop l.value-index l.values)) ≡ read_each (next_endpoint l.ffa (is_in l.space)) [] (items_view l.values);
}
