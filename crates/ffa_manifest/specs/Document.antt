-- SPDX-License-Identifier: MIT OR Apache-2.0
-- The machine that a text describes, or the first cause for which it is refused.
use Rattle.std.specs.Prelude.{ℕ, ◌-◌, ◌%◌, ◌^◌, ◌==◌, ◌&&◌, nat_le, Bool, List, [], ◌∷◌, Result, Ok, codes}
use Rattle.toml.specs.Data.{Members}
use Rattle.toml.specs.Parse.{parse_document}
use Rattle.ffa_model.specs.declared.limits.TheConstants.{MOST_BLOCKS, MOST_RAM}
use Rattle.ffa_model.specs.declared.endpoint.Endpoint.{Endpoint}
use Rattle.ffa_model.specs.declared.manifest.Manifest.{Manifest}
use Rattle.ffa_model.specs.declared.manifest.Ffa.{Ffa}
use Rattle.ffa_model.specs.Manifest.{is_from_to, is_placed}
use Rattle.ffa_model.specs.Numbers.{PageIndex}
use Rattle.ffa_manifest.specs.declared.error.ManifestError.{ManifestError}
use Rattle.ffa_manifest.specs.declared.error.ManifestError.TheVariants.{Toml, RamBase, RamBlocks}
use Rattle.ffa_manifest.specs.Reading.{◌>>=◌, or_cause, tested, item_count}
use Rattle.ffa_manifest.specs.Keys.{only_keys, integer_at}
use Rattle.ffa_manifest.specs.Endpoints.{endpoint_items, endpoints_from}

-- a machine's RAM, the first page of its tables, its endpoints in order, and the version of FF-A that it serves; a text doesn't
-- say this version, and its tables begin RAM
pub record Parts : Type 0 where
  pub ram_base : ℕ
  pub ram_blocks : ℕ
  pub tables : PageIndex
  pub endpoints : List Endpoint
  pub ffa : Ffa

abbrev pub parts_of : Manifest → Parts
parts_of m =
    record { ram_base = m.ram_base.0; ram_blocks = m.ram_blocks; tables = m.tables.0; endpoints = m.endpoints.items; ffa = m.ffa }

unfoldable pub top_keys : Members → Result (Unit {0}) ManifestError
top_keys ms = only_keys (codes "ram_base" ∷ codes "ram_blocks" ∷ codes "endpoint" ∷ []) ms

-- where the text of a manifest lets RAM begin: at a multiple of the largest RAM, but not at 0, from which the largest RAM ends
-- at 2^32 at most
abbrev pub is_text_base : ℕ → Bool
is_text_base base = (base % MOST_RAM == 0 && nat_le MOST_RAM base) && nat_le base (2 ^ 32 - MOST_RAM)

unfoldable pub ram_base_at : Members → Result ℕ ManifestError
ram_base_at ms = integer_at (codes "ram_base") ms >>= tested is_text_base RamBase

unfoldable pub ram_blocks_at : Members → Result ℕ ManifestError
ram_blocks_at ms = integer_at (codes "ram_blocks") ms >>= tested (is_from_to 1 MOST_BLOCKS) RamBlocks

-- the top table
unfoldable pub machine : Ffa → Members → Result Parts ManifestError
machine ffa ms = do
  known ← top_keys ms
  base ← ram_base_at ms
  blocks ← ram_blocks_at ms
  ds ← endpoint_items ms
  endpoints ← endpoints_from ffa (is_placed base 0 blocks (item_count ds)) ds
  Ok (record { ram_base = base; ram_blocks = blocks; tables = 0; endpoints = endpoints; ffa = ffa })

-- the text as TOML, and then its tables, each whole in the order of its keys, where the machine serves this version of FF-A
unfoldable pub machine_of : Ffa → List ℕ → Result Parts ManifestError
machine_of ffa text = do
  ms ← or_cause Toml (parse_document text)
  machine ffa ms
