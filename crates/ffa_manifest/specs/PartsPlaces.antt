-- SPDX-License-Identifier: MIT OR Apache-2.0
-- Where parts make no machine: at which endpoint, and in which of its regions, their first test fails.
use Rattle.std.specs.Prelude.{ℕ, suc, Bool, ◌&&◌, List, [], ◌∷◌, ◌++◌, length, Option, Some, None, is_some, if◌then◌else◌}
use Rattle.ffa_model.specs.declared.limits.TheConstants.{MOST_ENDPOINTS}
use Rattle.ffa_model.specs.declared.endpoint.Region.{Region}
use Rattle.ffa_model.specs.declared.endpoint.Endpoint.{Endpoint}
use Rattle.ffa_model.specs.declared.manifest.Ffa.{Ffa}
use Rattle.ffa_model.specs.Identifiers.{identifier}
use Rattle.ffa_model.specs.Manifest.{has_tables, is_ram_base, is_ram_size, is_from_to, is_placed, regions_of}
use Rattle.ffa_manifest.specs.declared.parts_place.PartsPlace.{PartsPlace}
use Rattle.ffa_manifest.specs.Document.{Parts}
use Rattle.ffa_manifest.specs.Parts.{Tests, first_failure, region_tests, endpoint_tests, are_properties_after, is_uuid_after, is_version}

-- the first of these, counted from 1, that fails one of its tests beside the things before it
abbrev pub refused_from : {A : Type 0} → (List A → A → Tests) → List A → List A → Option ℕ
refused_from tests_of_one before [] = None
refused_from tests_of_one before (x ∷ xs) =
    if is_some (first_failure (tests_of_one before x)) then Some (suc (length before)) else refused_from tests_of_one (before ++ x ∷ []) xs

-- the region in which an endpoint after these is refused: none where its version, its UUID or its properties are, which are
-- tested first, or where it has no region
unfoldable pub region_place : Ffa → (Region → Bool) → List Endpoint → Endpoint → Option ℕ
region_place ffa is_placed before e =
    if is_version ffa e.version && (is_uuid_after before e.uuid && are_properties_after before e.version e.properties.0)
    then refused_from (λ own r. region_tests is_placed (regions_of before ++ own) r) [] e.regions.items
    else None

abbrev pub nowhere : PartsPlace
nowhere = record { endpoint = None; region = None }

-- of endpoints after these
abbrev pub place_from : Ffa → (Region → Bool) → List Endpoint → List Endpoint → PartsPlace
place_from ffa is_placed before [] = nowhere
place_from ffa is_placed before (e ∷ es) =
    if is_some (first_failure (endpoint_tests ffa is_placed before e))
    then record { endpoint = Some (record { 0 = identifier (length before) }); region = region_place ffa is_placed before e }
    else place_from ffa is_placed (before ++ e ∷ []) es

-- of parts, of which RAM, the count of endpoints and their tables are tested first
unfoldable pub place_of : Parts → PartsPlace
place_of parts =
    if is_ram_base parts.ram_base
    && (is_ram_size parts.ram_base parts.ram_blocks
    && (is_from_to 1 MOST_ENDPOINTS (length parts.endpoints)
    && has_tables parts.tables parts.ram_blocks (length parts.endpoints)))
    then place_from parts.ffa (is_placed parts.ram_base parts.tables parts.ram_blocks (length parts.endpoints)) [] parts.endpoints
    else nowhere
