-- SPDX-License-Identifier: MIT OR Apache-2.0
-- Where a document is refused: at which endpoint, and in which of its regions.
use Rattle.std.specs.Prelude.{◌≡◌, ◌≤◌, ◌⊎◌, ℕ, zero, suc, Bool, ◌==◌, List, ◌++◌, length, Option, Some, None, Result, Ok, Err, IsErr, IsSomeAnd, IsUtf8, MatchOption, MatchResult, if◌then◌else◌, codes}
use Rattle.toml.specs.Data.{Data, Items, no_items, item, Members, as_table, get_item}
use Rattle.std.specs.Str.{IsValidUpTo}
use Rattle.toml.specs.Parse.{parse_document}
use Rattle.ffa_model.specs.declared.limits.TheConstants.{MOST_REGIONS}
use Rattle.ffa_model.specs.declared.endpoint.Region.{Region}
use Rattle.ffa_model.specs.declared.endpoint.Endpoint.{Endpoint}
use Rattle.ffa_model.specs.declared.manifest.Ffa.{Ffa}
use Rattle.ffa_model.specs.Identifiers.{identifier}
use Rattle.ffa_model.specs.Manifest.{is_placed, regions_of}
use Rattle.ffa_manifest.specs.declared.error.ManifestError.{ManifestError}
use Rattle.ffa_manifest.specs.declared.error.ManifestError.TheVariants.{Toml, WrongKind, RegionCount}
use Rattle.ffa_manifest.specs.declared.refusal.Found.{Found}
use Rattle.ffa_manifest.specs.declared.refusal.Found.TheVariants.{Control, NoToml}
use Rattle.ffa_manifest.specs.declared.refusal.Location.{Location}
use Rattle.ffa_manifest.specs.declared.refusal.ManifestRefusal.{ManifestRefusal}
use Rattle.ffa_manifest.specs.Reading.{◌>>=◌, or_cause, item_count}
use Rattle.ffa_manifest.specs.Keys.{items_at}
use Rattle.ffa_manifest.specs.Regions.{next_region, regions_from}
use Rattle.ffa_manifest.specs.Endpoints.{normal_world_keys, partition_keys, version_at, uuid_at, properties_at, normal_world_properties, endpoint_items, next_endpoint, endpoints_from}
use Rattle.ffa_manifest.specs.Document.{top_keys, ram_base_at, ram_blocks_at, machine_of}

-- so many items of an array, from its first on
abbrev pub first_items : ℕ → Items → Items
first_items zero ds = no_items
first_items (suc n) no_items = no_items
first_items (suc n) (item d ds) = item d (first_items n ds)

-- a region is named, from 1: those before it are read, beside the regions that are taken, and it is refused
pub record IsAtRegion (is_placed : Region → Bool) (taken : List Region) (ds : Items) (region : Option ℕ) : Type 0 where
  pub index : ℕ
  pub own : List Region
  pub value : Data
  pub named : region ≡ Some (suc index)
  pub before : regions_from is_placed taken (first_items index ds) ≡ Ok own
  pub there : get_item index ds ≡ Some value
  pub refused : IsErr (next_region is_placed (taken ++ own) value)

unfoldable pub region_items : Members → Result Items ManifestError
region_items ms = items_at (codes "regions") MOST_REGIONS RegionCount ms

-- the items of the first table's regions, where all that is read before them is good
unfoldable pub normal_world_items : Ffa → Members → Result Items ManifestError
normal_world_items ffa ms = do
  known ← normal_world_keys ms
  version ← version_at ffa ms
  properties ← normal_world_properties ms
  region_items ms

-- the same of a partition's table
unfoldable pub partition_items : Ffa → Members → Result Items ManifestError
partition_items ffa ms = do
  known ← partition_keys ms
  version ← version_at ffa ms
  uuid ← uuid_at ms
  properties ← properties_at version ms
  region_items ms

-- the same of a table after those of these endpoints
unfoldable pub items_after : Ffa → List Endpoint → Data → Result Items ManifestError
items_after ffa before d = do
  ms ← or_cause WrongKind (as_table d)
  if length before == 0 then normal_world_items ffa ms else partition_items ffa ms

-- where an endpoint after these is refused: in one of its regions, or in none where what is read before them is refused
abbrev pub IsWithin : (Region → Bool) → List Endpoint → Result Items ManifestError → Option ℕ → Type 0
IsWithin is_placed before items region =
    MatchResult items (λ ds. IsAtRegion is_placed (regions_of before) ds region) (λ cause. region ≡ None)

-- an endpoint is named: those before it are read, and it is refused, in the region that is named or in none
pub record IsAtEndpoint (ffa : Ffa) (is_placed : Region → Bool) (ds : Items) (location : Location) : Type 0 where
  pub index : ℕ
  pub endpoints : List Endpoint
  pub value : Data
  pub named : location.endpoint ≡ Some (record { 0 = identifier index })
  pub before : endpoints_from ffa is_placed (first_items index ds) ≡ Ok endpoints
  pub there : get_item index ds ≡ Some value
  pub refused : IsErr (next_endpoint ffa is_placed endpoints value)
  pub within : IsWithin is_placed endpoints (items_after ffa endpoints value) location.region

-- neither an endpoint nor a region is named
pub record IsAtTop (location : Location) : Type 0 where
  pub endpoint : location.endpoint ≡ None
  pub region : location.region ≡ None

-- what the top table says of RAM, and the items of its endpoints
pub record Top : Type 0 where
  pub base : ℕ
  pub blocks : ℕ
  pub items : Items

unfoldable pub top : Members → Result Top ManifestError
top ms = do
  known ← top_keys ms
  base ← ram_base_at ms
  blocks ← ram_blocks_at ms
  ds ← endpoint_items ms
  Ok (record { base = base; blocks = blocks; items = ds })

-- where a document is refused: at an endpoint exactly where all else of the top table is good
abbrev pub IsPlaceOf : Ffa → Members → Location → Type 0
IsPlaceOf ffa ms location =
    MatchResult (top ms)
    (λ t. IsAtEndpoint ffa (is_placed t.base 0 t.blocks (item_count t.items)) t.items location)
    (λ cause. IsAtTop location)

-- the same of a text, which may be no document
abbrev pub IsPlaceIn : Ffa → List ℕ → Location → Type 0
IsPlaceIn ffa text location = MatchOption (parse_document text) (IsAtTop location) (λ ms. IsPlaceOf ffa ms location)

-- the byte where the parser's error begins, of what is found where a text is no document
abbrev pub error_start : Found → Option ℕ
error_start (NoToml said start) = Some start.byte
error_start (Control byte place start) = Some start.byte
error_start other = None

-- this byte of a text, or its end, is told exactly where the text is no document
abbrev pub IsByteIn : List ℕ → ManifestRefusal → Type 0
IsByteIn text r =
    MatchOption (parse_document text)
    (IsSomeAnd r.byte (λ at. at ≤ length text) × (r.byte ≡ error_start r.place.found))
    (λ ms. r.byte ≡ None)

-- bytes are no text in UTF-8, from the byte on that is told
pub record IsGarbled (bytes : List ℕ) (r : ManifestRefusal) : Type 0 where
  pub garbled : ¬ (IsUtf8 bytes)
  pub cause : r.cause ≡ Toml
  pub place : IsAtTop r.place
  pub byte : IsSomeAnd r.byte (IsValidUpTo bytes)

-- they are one, which is refused
pub record IsUnread (ffa : Ffa) (bytes : List ℕ) (r : ManifestRefusal) : Type 0 where
  pub text : IsUtf8 bytes
  pub cause : machine_of ffa bytes ≡ Err r.cause
  pub place : IsPlaceIn ffa bytes r.place
  pub byte : IsByteIn bytes r

-- why and where bytes are refused, where the machine serves this version of FF-A
abbrev pub IsRefused : Ffa → List ℕ → ManifestRefusal → Type 0
IsRefused ffa bytes r = IsGarbled bytes r ⊎ IsUnread ffa bytes r
