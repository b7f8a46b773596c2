-- SPDX-License-Identifier: MIT OR Apache-2.0
-- The regions of an endpoint.
use Rattle.std.specs.Prelude.{ℕ, Bool, true, false, List, [], ◌∷◌, ◌++◌, Option, Some, None, Result, Ok, Err, if◌then◌else◌, codes, bytes_eq}
use Rattle.std.specs.List.{list_all}
use Rattle.toml.specs.Data.{Data, Items, Members, as_table}
use Rattle.ffa_model.specs.declared.limits.TheConstants.{MOST_REGIONS}
use Rattle.ffa_model.specs.declared.endpoint.Region.{Region}
use Rattle.ffa_model.specs.declared.rights.Rights.{Rights}
use Rattle.ffa_model.specs.declared.rights.Data.TheVariants.{Ro, Rw}
use Rattle.ffa_model.specs.Manifest.{is_apart}
use Rattle.ffa_manifest.specs.declared.error.ManifestError.{ManifestError}
use Rattle.ffa_manifest.specs.declared.error.ManifestError.TheVariants.{WrongKind, RegionCount, RegionOutside, RegionOverlap}
use Rattle.ffa_manifest.specs.Reading.{◌>>=◌, or_cause, read_each}
use Rattle.ffa_manifest.specs.Keys.{only_keys, integer_at, text_at, items_at}

unfoldable pub region_keys : Members → Result (Unit {0}) ManifestError
region_keys ms = only_keys (codes "base" ∷ codes "pages" ∷ codes "rights" ∷ []) ms

unfoldable pub base_at : Members → Result (Option ℕ) ManifestError
base_at ms = integer_at (codes "base") ms

unfoldable pub pages_at : Members → Result (Option ℕ) ManifestError
pages_at ms = integer_at (codes "pages") ms

-- the rights that a word names
unfoldable pub rights_named : List ℕ → Option Rights
rights_named word =
    if bytes_eq word (codes "ro") then Some (record { level = Ro; exec = false })
    else if bytes_eq word (codes "rw") then Some (record { level = Rw; exec = false })
    else if bytes_eq word (codes "rox") then Some (record { level = Ro; exec = true })
    else if bytes_eq word (codes "rwx") then Some (record { level = Rw; exec = true })
    else None

unfoldable pub rights_at : Members → Result Rights ManifestError
rights_at ms = do
  word ← text_at (codes "rights") ms
  or_cause WrongKind (rights_named word)

-- the region of these numbers, where both are there
abbrev pub region_from : Option ℕ → Option ℕ → Rights → Option Region
region_from None pages rights = None
region_from (Some base) None rights = None
region_from (Some base) (Some pages) rights = Some (record { base = base; pages = pages; rights = rights })

-- a table's region: its keys, and then its place
unfoldable pub region : (Region → Bool) → Members → Result Region ManifestError
region is_placed ms = do
  known ← region_keys ms
  base ← base_at ms
  pages ← pages_at ms
  rights ← rights_at ms
  r ← or_cause RegionOutside (region_from base pages rights)
  if is_placed r then Ok r else Err RegionOutside

-- the region has no page in common with those that are taken
abbrev pub is_free : List Region → Region → Bool
is_free taken r = list_all (is_apart r) taken

-- the next region of an array, where some regions are taken
unfoldable pub next_region : (Region → Bool) → List Region → Data → Result Region ManifestError
next_region is_placed taken d = do
  ms ← or_cause WrongKind (as_table d)
  r ← region is_placed ms
  if is_free taken r then Ok r else Err RegionOverlap

-- the regions of an array, beside those that other endpoints took
unfoldable pub regions_from : (Region → Bool) → List Region → Items → Result (List Region) ManifestError
regions_from is_placed taken ds = read_each (λ own d. next_region is_placed (taken ++ own) d) [] ds

unfoldable pub regions_at : (Region → Bool) → List Region → Members → Result (List Region) ManifestError
regions_at is_placed taken ms = do
  ds ← items_at (codes "regions") MOST_REGIONS RegionCount ms
  regions_from is_placed taken ds
