-- SPDX-License-Identifier: MIT OR Apache-2.0
-- What a layout gives each endpoint.
use Rattle.std.specs.Prelude.{ℕ, List, [], map, slice_index_or, Option}
use Rattle.arrayvec.specs.ArrayVec.{array_vec_len}
use Rattle.ffa_model.specs.Ram.{Ram}
use Rattle.ffa_model.specs.declared.endpoint.Region.{Region}
use Rattle.ffa_model.specs.declared.rights.Rights.{Rights}
use Rattle.ffa_stage2.specs.declared.layout.Layout.{Layout}
use Rattle.ffa_stage2.specs.declared.layout.Regions.{Regions}
use Rattle.ffa_model.specs.Regions.{normal_of, right_in as right_among}
use Rattle.ffa_stage2.specs.Tables.{IsBuilt, BlocksWhereOne, WalksTo, KeepsRest}
use Rattle.ffa_stage2.specs.Words.{TablesAre}

abbrev pub lists_of : List Regions → List (List Region)
lists_of regions = map (λ (r : Regions). r.list.items) regions

-- each endpoint's regions
abbrev pub regions_in : Layout → List (List Region)
regions_in layout = lists_of layout.regions.items

-- the right that endpoint e has to page p from the start
abbrev pub layout_right : Layout → ℕ → ℕ → Option Rights
layout_right layout e p = right_among layout.base.0 (slice_index_or (regions_in layout) e []) p

-- where worlds are told apart, the regions of non-secure memory: the normal world's
abbrev pub normal_in : Layout → Option (List Region)
normal_in layout = normal_of layout.ffa (slice_index_or (regions_in layout) 0 [])

-- the tables of the layout's endpoints stand in the RAM, and endpoint e has `access e p` to page p
abbrev pub IsBuiltFor : Layout → Ram → (ℕ → ℕ → Option Rights) → Type 0
IsBuiltFor layout ram access = IsBuilt ram (array_vec_len layout.regions) layout.tables.0 layout.blocks access

-- the walk of each endpoint's table gives its access at every address
abbrev pub WalksToFor : Layout → Ram → (ℕ → ℕ → Option Rights) → Type 0
WalksToFor layout ram access = WalksTo ram (array_vec_len layout.regions) layout.tables.0 layout.blocks access

-- blocks of 2 MiB stand exactly where 512 pages have one right other than nothing
abbrev pub BlocksWhereOneFor : Layout → Ram → (ℕ → ℕ → Option Rights) → Type 0
BlocksWhereOneFor layout ram access = BlocksWhereOne ram (array_vec_len layout.regions) layout.tables.0 layout.blocks access

-- word j of endpoint e's table page s is `word e s j`
abbrev pub TablesAreFor : Layout → Ram → (ℕ → ℕ → ℕ → ℕ) → Type 0
TablesAreFor layout ram word = TablesAre ram (array_vec_len layout.regions) layout.tables.0 layout.blocks word

-- the RAM stands where it did, and no page but the table pages changed
abbrev pub KeepsRestFor : Layout → Ram → Ram → Type 0
KeepsRestFor layout old new = KeepsRest old new (array_vec_len layout.regions) layout.tables.0 layout.blocks
