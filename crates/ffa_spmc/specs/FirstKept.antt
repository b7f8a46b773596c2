-- SPDX-License-Identifier: MIT OR Apache-2.0
-- FOR PROOFS ALONE
-- The manifest, the layout and the bitmaps of a machine in its first state.
use Rattle.std.specs.Prelude.{◌≡◌, true, map}
use Rattle.std.specs.FinSet as finite_set
use Rattle.std.specs.List.{enumerate_from}
use Rattle.ffa_model.specs.declared.manifest.Manifest.{Manifest}
use Rattle.ffa_model.specs.Endpoints.{have_uuids}
use Rattle.ffa_model.specs.First.{has_first_bitmaps}
use Rattle.ffa_model.specs.Regions.{normal_of, regions_at, regions_of_each}
use Rattle.ffa_model.specs.Notifications.{Notifications}
use Rattle.ffa_stage2.specs.declared.layout.Layout.{Layout}
use Rattle.ffa_stage2.specs.Layout.{normal_in, regions_in}

-- they are of this manifest, whose UUIDs have 16 bytes each, the layout is that of its tables, and partitions that receive
-- notifications have bitmaps, of which no bit is bound or pending, and there is nothing to tell
pub record AreFirst (m own : Manifest) (layout : Layout) (bits : Notifications) : Type 0 where
  pub manifest : own ≡ m
  pub uuids : have_uuids m.endpoints.items ≡ true
  pub base : layout.base.0 ≡ m.ram_base.0
  pub ram_blocks : layout.blocks ≡ m.ram_blocks
  pub tables : layout.tables.0 ≡ m.tables.0
  pub regions : regions_in layout ≡ regions_of_each m.endpoints.items
  pub normal : normal_in layout ≡ normal_of m.ffa (regions_at m.endpoints.items 0)
  pub bitmaps : bits.bitmaps ≡ map has_first_bitmaps (enumerate_from 0 m.endpoints.items)
  pub bound : bits.bound ≡ finite_set.empty
  pub pending : bits.pending ≡ finite_set.empty
  pub notices : bits.notices ≡ finite_set.empty
