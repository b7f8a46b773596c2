-- SPDX-License-Identifier: MIT OR Apache-2.0
-- What C is told of a manifest that is refused: why, and where.
use Rattle.std.specs.Prelude.{◌≡◌, ℕ, suc, ◌&&◌, nat_le, List, [], ◌∷◌, ◌++◌, drop, length, min, take, Option, Some, None, Result, Ok, Err, is_ok, is_some, IsOk, IsUtf8, if◌then◌else◌}
use Rattle.ffa_model.specs.declared.endpoint.Endpoint.{Endpoint}
use Rattle.ffa_model.specs.declared.endpoint.EndpointId.{EndpointId}
use Rattle.ffa_model.specs.declared.limits.TheConstants.{MOST_ENDPOINTS, MOST_REGIONS}
use Rattle.ffa_model.specs.declared.manifest.Ffa.{Ffa}
use Rattle.ffa_model.specs.declared.manifest.Ffa.TheVariants.{V1_1}
use Rattle.ffa_model.specs.Identifiers.{identifier}
use Rattle.ffa_manifest.specs.declared.error.ManifestError.{ManifestError}
use Rattle.ffa_manifest.specs.declared.parts_place.PartsPlace.{PartsPlace}
use Rattle.ffa_manifest.specs.declared.refusal.ManifestRefusal.{ManifestRefusal}
use Rattle.ffa_manifest.specs.Document.{machine_of}
use Rattle.ffa_manifest.specs.Parts.{parts_from}
use Rattle.ffa_manifest.specs.PartsPlaces.{nowhere, place_of}
use Rattle.ffa_manifest.specs.Places.{IsRefused}
use Rattle.ffa_manifest.specs.TextPlaces.{column_behind, line_behind}
use Rattle.ffa_c.specs.declared.codes.TheConstants.{NOTHING}
use Rattle.ffa_c.specs.declared.manifest.CRegion.{CRegion}
use Rattle.ffa_c.specs.declared.manifest.CEndpoint.{CEndpoint}
use Rattle.ffa_c.specs.declared.manifest.CManifest.{CManifest}
use Rattle.ffa_c.specs.declared.refusing.CRefusal.{CRefusal}
use Rattle.ffa_c.specs.Booting.{cause_number}
use Rattle.ffa_c.specs.Given.{endpoint_given, endpoints_given, parts_given, refusal_of, region_given, version_given, ffa_given}

-- an endpoint's identifier, and a region's number, or what stands for none
abbrev pub endpoint_told : Option EndpointId → ℕ
endpoint_told None = NOTHING
endpoint_told (Some e) = e.0

abbrev pub region_told : Option ℕ → ℕ
region_told None = 0
region_told (Some n) = n

-- OF A TEXT
-- its line and its column, from 1, of a byte, or 0 where none is told
abbrev pub line_told : List ℕ → Option ℕ → ℕ
line_told text None = 0
line_told text (Some at) = line_behind (take at text)

abbrev pub column_told : List ℕ → Option ℕ → ℕ
column_told text None = 0
column_told text (Some at) = column_behind (take at text)

-- what is told of why and where a text is refused
pub record IsToldOf (text : List ℕ) (its : ManifestRefusal) (told : CRefusal) : Type 0 where
  pub cause : told.cause ≡ cause_number its.cause
  pub endpoint : told.endpoint ≡ endpoint_told its.place.endpoint
  pub region : told.region ≡ region_told its.place.region
  pub line : told.line ≡ line_told text its.byte
  pub column : told.column ≡ column_told text its.byte

-- An array after these words are told in it: as many of them as fit before a NUL, then the NUL, and then the array as before. An
-- empty array stays.
abbrev pub told_in : List ℕ → List ℕ → List ℕ
told_in [] said = []
told_in (byte ∷ bytes) said = let n = min (length said) (length bytes) in take n said ++ 0 ∷ drop n bytes

-- an array tells some words, and as many are counted as these words have
abbrev pub TellsWords : CRefusal → List ℕ → List ℕ → Type 0
TellsWords told old new = (said : List ℕ) × (told.words ≡ length said) × (new ≡ told_in old said)

-- it is what the program's reader says of it, for a machine of FF-A 1.1
abbrev pub TellsText : List ℕ → CRefusal → Type 0
TellsText text told = (its : ManifestRefusal) × IsRefused V1_1 text its × IsToldOf text its told

-- it is that of a machine of FF-A 1.1
abbrev pub IsText : List ℕ → Type 0
IsText text = IsUtf8 text × IsOk (machine_of V1_1 text)

-- OF NUMBERS
-- in which region, counted from here, rights are given that there are none of
abbrev pub region_from : ℕ → List CRegion → Option ℕ
region_from n [] = None
region_from n (r ∷ rs) = if is_ok (region_given r) then region_from (suc n) rs else Some (suc n)

-- of an endpoint that tells none: none where its version or the count of its regions does it
abbrev pub untold_region : CEndpoint → Option ℕ
untold_region e =
    if is_some (version_given e.version) && nat_le e.region_count MOST_REGIONS
    then region_from 0 (take e.region_count e.regions)
    else None

-- at which endpoint, counted from here, one is given that there is none of
abbrev pub untold_from : ℕ → List CEndpoint → PartsPlace
untold_from n [] = nowhere
untold_from n (e ∷ es) =
    if is_ok (endpoint_given e)
    then untold_from (suc n) es
    else record { endpoint = Some (record { 0 = identifier n }); region = untold_region e }

abbrev pub untold_place : CManifest → PartsPlace
untold_place m =
    if nat_le m.endpoint_count MOST_ENDPOINTS then untold_from 0 (take m.endpoint_count m.endpoints) else nowhere

-- where these endpoints make no machine of this version of FF-A: nowhere where there is no such version
abbrev pub place_served : CManifest → List Endpoint → Option Ffa → PartsPlace
place_served m es None = nowhere
place_served m es (Some ffa) = place_of (parts_from ffa m.ram_base m.tables m.ram_blocks es)

-- where numbers are refused: where they tell no endpoints, or else where the parts make no machine
abbrev pub place_among : CManifest → Result (List Endpoint) ManifestError → PartsPlace
place_among m (Err cause) = untold_place m
place_among m (Ok es) = place_served m es (ffa_given m.ffa)

abbrev pub given_place : CManifest → PartsPlace
given_place m = place_among m (endpoints_given m)

-- the number of the cause, or 0 where there is none
abbrev pub cause_told : Option ManifestError → ℕ
cause_told None = 0
cause_told (Some cause) = cause_number cause

abbrev pub given_cause : CManifest → ℕ
given_cause m = cause_told (refusal_of (parts_given m))

abbrev pub given_told : CManifest → CRefusal
given_told m = record {
  cause = given_cause m;
  endpoint = endpoint_told (given_place m).endpoint;
  region = region_told (given_place m).region;
  line = 0;
  column = 0;
  words = 0;
}
