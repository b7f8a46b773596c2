-- SPDX-License-Identifier: MIT OR Apache-2.0
-- FOR PROOFS ALONE
-- Where the regions of a machine may lie.
use Rattle.std.specs.Prelude.{ℕ, ◌&&◌, ◌||◌, nat_le, Bool, Option, Some, None, if◌then◌else◌}
use Rattle.ffa_model.specs.declared.endpoint.Region.{Region}
use Rattle.ffa_model.specs.Manifest.{is_placed, ram_end, tables_begin, tables_end}
use Rattle.ffa_manifest.specs.declared.region_space.RegionSpace.{RegionSpace}

-- all bytes from one address up to another lie in RAM, and none in the tables
abbrev pub is_clear : RegionSpace → ℕ → ℕ → Bool
is_clear space base end =
    (nat_le space.base base && nat_le end (ram_end space.base space.blocks))
    && (nat_le end (tables_begin space.base space.tables space.blocks)
    || nat_le (tables_end space.base space.tables space.blocks space.endpoints) base)

-- whole pages in RAM that are none of the tables'
abbrev pub is_in : RegionSpace → Region → Bool
is_in space = is_placed space.base space.tables space.blocks space.endpoints

-- the region, where it's there
abbrev pub placed : RegionSpace → Region → Option Region
placed space region = if is_in space region then Some region else None
