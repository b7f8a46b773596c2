-- SPDX-License-Identifier: MIT OR Apache-2.0
use Rattle.std.proofs.Common.{◌≡◌, length, Ok}
use Rattle.toml.specs.View.{items_view}
use Rattle.ffa_manifest.specs.RegionSpace.{is_in}
use Rattle.ffa_manifest.specs.Endpoints.{endpoints_from}
use Rattle.ffa_manifest.specs.Places.{first_items}
use Rattle.ffa_manifest.proofs.locate.in_endpoints.Given as goal

-- the values so far are read
abbrev pub invariant-loop-index : goal.invariant-loop-index
invariant-loop-index l = record {
  count : length l.before.items ≡ l.index;
  read : endpoints_from l.ffa (is_in l.space) (first_items l.index (items_view l.values)) ≡ Ok l.before.items;
}
