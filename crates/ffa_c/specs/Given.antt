-- SPDX-License-Identifier: MIT OR Apache-2.0
-- A manifest as C gives it: numbers, and so many of the places of an array.
use Rattle.std.specs.Prelude.{ℕ, List, [], ◌∷◌, ◌++◌, take, Option, Some, None, Result, Ok, Err, ◌==◌, ◌≡◌, ◌≢◌, true, false, nat_le, if◌then◌else◌}
use Rattle.std.specs.Option.{option_map}
use Rattle.ffa_model.specs.declared.limits.TheConstants.{MOST_ENDPOINTS, MOST_REGIONS}
use Rattle.ffa_model.specs.declared.endpoint.Endpoint.{Endpoint}
use Rattle.ffa_model.specs.declared.endpoint.Region.{Region}
use Rattle.ffa_model.specs.declared.endpoint.Version as versions
use Rattle.ffa_model.specs.declared.endpoint.Version.TheVariants.{Compact, V1_1, V1_2}
use Rattle.ffa_model.specs.declared.manifest.Ffa.{Ffa}
use Rattle.ffa_model.specs.declared.manifest.Ffa.TheVariants as served
use Rattle.ffa_model.specs.declared.rights.Rights.{Rights}
use Rattle.ffa_model.specs.declared.rights.Data.TheVariants.{Ro, Rw}
use Rattle.ffa_manifest.specs.Document.{Parts}
use Rattle.ffa_manifest.specs.Parts.{first_cause}
use Rattle.ffa_manifest.specs.Reading.{◌>>=◌, or_cause}
use Rattle.ffa_manifest.specs.declared.error.ManifestError.{ManifestError}
use Rattle.ffa_manifest.specs.declared.error.ManifestError.TheVariants.{NoMemory, WrongKind, EndpointCount, RegionCount, Version}
use Rattle.ffa_c.specs.declared.manifest.CRegion.{CRegion}
use Rattle.ffa_c.specs.declared.manifest.CEndpoint.{CEndpoint}
use Rattle.ffa_c.specs.declared.manifest.CManifest.{CManifest}

-- 1 to read, 3 to write too, and 4 more to execute
abbrev pub rights_given : ℕ → Option Rights
rights_given code =
    if code == 1 then Some (record { level = Ro; exec = false })
    else if code == 3 then Some (record { level = Rw; exec = false })
    else if code == 5 then Some (record { level = Ro; exec = true })
    else if code == 7 then Some (record { level = Rw; exec = true })
    else None

abbrev pub version_given : ℕ → Option versions.Version
version_given code =
    if code == 0 then Some V1_1 else if code == 1 then Some Compact else if code == 2 then Some V1_2 else None

abbrev pub ffa_given : ℕ → Option Ffa
ffa_given code = if code == 0 then Some served.V1_1 else if code == 1 then Some served.V1_2 else None

abbrev pub region_given : CRegion → Result Region ManifestError
region_given r =
    let with_rights : Rights → Region = λ rights. record { base = r.base; pages = r.pages; rights = rights } in
    or_cause WrongKind (option_map with_rights (rights_given r.rights))

-- the first of these that are given, each as it is told, or the first cause
abbrev pub each_given : {A B : Type 0} → (A → Result B ManifestError) → List B → List A → Result (List B) ManifestError
each_given one before [] = Ok before
each_given one before (x ∷ xs) = one x >>= λ y. each_given one (before ++ y ∷ []) xs

-- so many from the front of an array, where it has as many places
abbrev pub counted : {A B : Type 0}
    → (A → Result B ManifestError) → ℕ → ManifestError → ℕ → List A → Result (List B) ManifestError
counted one most cause count places = if nat_le count most then each_given one [] (take count places) else Err cause

abbrev pub regions_given : CEndpoint → Result (List Region) ManifestError
regions_given e = counted region_given MOST_REGIONS RegionCount e.region_count e.regions

abbrev pub endpoint_given : CEndpoint → Result Endpoint ManifestError
endpoint_given e = do
  version ← or_cause Version (version_given e.version)
  regions ← regions_given e
  Ok (record {
    version = version;
    uuid = e.uuid;
    properties = record { 0 = e.properties };
    regions = record { items = regions };
  })

abbrev pub endpoints_given : CManifest → Result (List Endpoint) ManifestError
endpoints_given m = counted endpoint_given MOST_ENDPOINTS EndpointCount m.endpoint_count m.endpoints

abbrev pub parts_given : CManifest → Result Parts ManifestError
parts_given m = do
  endpoints ← endpoints_given m
  ffa ← or_cause WrongKind (ffa_given m.ffa)
  Ok (record { ram_base = m.ram_base; ram_blocks = m.ram_blocks; tables = m.tables; endpoints = endpoints; ffa = ffa })

-- C's numbers tell these parts, and they make a machine
pub record Gives (given : CManifest) (parts : Parts) : Type 0 where
  pub told : parts_given given ≡ Ok parts
  pub whole : first_cause parts ≡ None

-- C's numbers are refused for this cause: they tell no parts, or parts that make no machine
abbrev pub refusal_of : Result Parts ManifestError → Option ManifestError
refusal_of (Err cause) = Some cause
refusal_of (Ok parts) = first_cause parts

-- for want of memory any may be
abbrev pub IsGivenFor : CManifest → ManifestError → Type 0
IsGivenFor given cause = cause ≢ NoMemory → refusal_of (parts_given given) ≡ Some cause
