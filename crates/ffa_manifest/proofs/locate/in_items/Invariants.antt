-- SPDX-License-Identifier: MIT OR Apache-2.0
use Rattle.std.proofs.Common.{◌≡◌, length, Ok}
use Rattle.toml.specs.View.{items_view}
use Rattle.ffa_model.specs.Manifest.{regions_of}
use Rattle.ffa_manifest.specs.RegionSpace.{is_in}
use Rattle.ffa_manifest.specs.Regions.{regions_from}
use Rattle.ffa_manifest.specs.Places.{first_items}
use Rattle.ffa_manifest.proofs.locate.in_items.Given as goal

-- the values so far are read
abbrev pub invariant-loop-index : goal.invariant-loop-index
invariant-loop-index l = record {
  count : length l.own.items ≡ l.index;
  read : regions_from (is_in l.space) (regions_of l.before) (first_items l.index (items_view l.values)) ≡ Ok l.own.items;
}
