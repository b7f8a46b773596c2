-- SPDX-License-Identifier: MIT OR Apache-2.0
-- Where the tables of a machine stand and its regions lie, in words.
use Rattle.std.specs.Prelude.{ℕ, ◌+◌, ◌-◌, ◌*◌, Bool, List, [], ◌++◌, length, Some, codes, slice_get, if◌then◌else◌, flat_map}
use Rattle.std.specs.Option.{option_map_or}
use Rattle.ffa_model.specs.declared.endpoint.Region.{Region}
use Rattle.ffa_model.specs.declared.endpoint.Endpoint.{Endpoint}
use Rattle.ffa_model.specs.Lists.{listed}
use Rattle.ffa_model.specs.Identifiers.{identifier}
use Rattle.ffa_model.specs.Manifest.{ram_end, root_of, tables_begin, tables_end}
use Rattle.play_trace.specs.TraceText.{hex, spaced, ended, rights_text}
use Rattle.ffa_manifest.specs.Document.{Parts}

-- an endpoint by its place, and the addresses of its level 1, its level 2 and its first level 3 page
unfoldable pub endpoint_line : ℕ → ℕ → List ℕ
endpoint_line place root =
    ended
    (hex 4 (identifier place) ++ spaced (hex 8 root) ++ spaced (hex 8 (root + 4096)) ++ spaced (hex 8 (root + 8192)))

abbrev pub layout_line : Parts → ℕ → List ℕ
layout_line m place = endpoint_line place (root_of m.ram_base m.tables m.ram_blocks place)

abbrev pub layout_text : Parts → List ℕ
layout_text m = flat_map (layout_line m) (listed (length m.endpoints) (λ place. place))

-- REGIONS

-- a region of the endpoint at a place: the addresses of its first and last byte, how many pages it has, and the right
unfoldable pub region_line : ℕ → Region → List ℕ
region_line place r =
    ended (
    codes "region" ++ spaced (hex 4 (identifier place)) ++ spaced (hex 8 r.base)
    ++ spaced (hex 8 (r.base + 4096 * r.pages - 1)) ++ spaced (hex 5 r.pages) ++ spaced (rights_text (Some r.rights)))

abbrev pub regions_at : Parts → ℕ → List Region
regions_at m place = option_map_or (λ (e : Endpoint). e.regions.items) (slice_get m.endpoints place) []

abbrev pub endpoint_regions : Parts → ℕ → List ℕ
endpoint_regions m place = flat_map (region_line place) (regions_at m place)

abbrev pub region_lines : Parts → List ℕ
region_lines m = flat_map (endpoint_regions m) (listed (length m.endpoints) (λ place. place))

-- the addresses of the first and the last byte of what ends there
unfoldable pub span_line : List ℕ → ℕ → ℕ → List ℕ
span_line name first end = ended (name ++ spaced (hex 8 first) ++ spaced (hex 8 (end - 1)))

-- the table pages, what lies behind them, and all of RAM
abbrev pub spans_text : Parts → List ℕ
spans_text m =
    let begin = tables_begin m.ram_base m.tables m.ram_blocks in
    let behind = tables_end m.ram_base m.tables m.ram_blocks (length m.endpoints) in
    let end = ram_end m.ram_base m.ram_blocks in
    span_line (codes "tables") begin behind ++ span_line (codes "space") behind end
    ++ span_line (codes "ram") m.ram_base end

abbrev pub regions_text : Parts → List ℕ
regions_text m = region_lines m ++ spans_text m

-- what is printed, where regions are asked for and where they aren't
abbrev pub whole_text : Bool → Parts → List ℕ
whole_text regions m = if regions then layout_text m ++ regions_text m else layout_text m
