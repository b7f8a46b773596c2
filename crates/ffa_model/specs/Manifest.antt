-- SPDX-License-Identifier: MIT OR Apache-2.0
-- Which parts make a machine, and where its tables stand.
use Rattle.std.specs.Prelude.{ℕ, ◌+◌, ◌*◌, ◌^◌, ◌%◌, ◌==◌, ◌&&◌, ◌||◌, nat_lt, nat_le, not, Bool, true, false, List, [], ◌∷◌, length}
use Rattle.std.specs.List.{list_all, flat_map}
use Rattle.ffa_model.specs.declared.limits.TheConstants.{MOST_BLOCKS, MOST_ENDPOINTS, MOST_REGIONS}
use Rattle.ffa_model.specs.declared.endpoint.Region.{Region}
use Rattle.ffa_model.specs.declared.endpoint.Endpoint.{Endpoint}
use Rattle.ffa_model.specs.declared.endpoint.Version.{Version}
use Rattle.ffa_model.specs.declared.endpoint.Version.TheVariants.{V1_2}
use Rattle.ffa_model.specs.Bits.{bits, is_set}
use Rattle.ffa_model.specs.Numbers.{PageIndex}

-- each endpoint has a level 1 page, a level 2 page and a level 3 page for each block of RAM
abbrev pub table_pages : ℕ → ℕ
table_pages blocks = 2 + blocks

-- the address of the level 1 page of the endpoint at a place in the manifest, where the tables begin at a page of RAM
abbrev pub root_of : ℕ → PageIndex → ℕ → ℕ → ℕ
root_of base tables blocks index = base + 4096 * (tables + index * table_pages blocks)

-- the first address of the table pages, the first behind those of this many endpoints, and the first behind RAM
abbrev pub tables_begin : ℕ → PageIndex → ℕ → ℕ
tables_begin base tables blocks = root_of base tables blocks 0

abbrev pub tables_end : ℕ → PageIndex → ℕ → ℕ → ℕ
tables_end base tables blocks count = root_of base tables blocks count

abbrev pub ram_end : ℕ → ℕ → ℕ
ram_end base blocks = base + 0x200000 * blocks

-- where RAM may begin: at a multiple of 2 MiB, but not at 0
abbrev pub is_ram_base : ℕ → Bool
is_ram_base base = base % 0x200000 == 0 && nat_le 0x200000 base

-- RAM of so many blocks of 2 MiB ends at 2^32 at most, and lies in one GiB, so that one table of level 2 has it
abbrev pub has_place : ℕ → ℕ → Bool
has_place base blocks = nat_le (ram_end base blocks) (2 ^ 32) && nat_le (base % 2 ^ 30 + 0x200000 * blocks) (2 ^ 30)

-- between these two, each included
abbrev pub is_from_to : ℕ → ℕ → ℕ → Bool
is_from_to least most n = nat_le least n && nat_le n most

-- how many blocks RAM may have from there on
abbrev pub is_ram_size : ℕ → ℕ → Bool
is_ram_size base blocks = is_from_to 1 MOST_BLOCKS blocks && has_place base blocks

abbrev pub is_nil : List ℕ → Bool
is_nil uuid = list_all (λ b. b == 0) uuid

-- the normal world receives neither direct requests nor, from boot, notifications
abbrev pub is_normal_world : Endpoint → Bool
is_normal_world e =
    (is_nil e.uuid && nat_lt e.properties.0 16) && (not (is_set 0 e.properties.0) && not (is_set 3 e.properties.0))

-- the properties that a partition may have: bits 3:0, and where it was built for FF-A 1.2 also bits 9 and 10, of second direct
-- messages
abbrev pub are_properties : Version → ℕ → Bool
are_properties V1_2 word = nat_lt word (2 ^ 11) && bits 8 4 word == 0
are_properties version word = nat_lt word 16

abbrev pub is_partition : Endpoint → Bool
is_partition e = not (is_nil e.uuid) && are_properties e.version e.properties.0

abbrev pub are_identified : List Endpoint → Bool
are_identified [] = false
are_identified (e ∷ es) = is_normal_world e && list_all is_partition es

-- RAM has the table pages of this many endpoints from that page on
abbrev pub has_tables : PageIndex → ℕ → ℕ → Bool
has_tables tables blocks count = nat_le (tables + count * table_pages blocks) (512 * blocks)

-- whole pages, at least one, in RAM, and none of them a table's
abbrev pub is_placed : ℕ → PageIndex → ℕ → ℕ → Region → Bool
is_placed base tables blocks count region =
    let end = region.base + 4096 * region.pages in
    ((region.base % 4096 == 0 && nat_le 1 region.pages) && (nat_le base region.base && nat_le end (ram_end base blocks)))
    && (nat_le end (tables_begin base tables blocks) || nat_le (tables_end base tables blocks count) region.base)

-- the regions have no page in common
abbrev pub is_apart : Region → Region → Bool
is_apart region q = nat_le (region.base + 4096 * region.pages) q.base || nat_le (q.base + 4096 * q.pages) region.base

abbrev pub are_apart : List Region → Bool
are_apart [] = true
are_apart (r ∷ rs) = list_all (is_apart r) rs && are_apart rs

abbrev pub regions_of : List Endpoint → List Region
regions_of es = flat_map (λ (e : Endpoint). e.regions.items) es

abbrev pub are_counted : List Endpoint → Bool
are_counted es = list_all (λ (e : Endpoint). is_from_to 1 MOST_REGIONS (length e.regions.items)) es

-- the conditions of an accepted manifest
abbrev pub is_accepted : ℕ → PageIndex → ℕ → List Endpoint → Bool
is_accepted base tables blocks es =
    ((is_ram_base base && is_ram_size base blocks)
    && ((is_from_to 1 MOST_ENDPOINTS (length es) && has_tables tables blocks (length es)) && are_identified es))
    && (are_counted es && (list_all (is_placed base tables blocks (length es)) (regions_of es) && are_apart (regions_of es)))
