-- SPDX-License-Identifier: MIT OR Apache-2.0
-- The first cause for which parts make no machine, in the order in which a text would be read.
use Rattle.std.specs.Prelude.{ℕ, Bool, true, false, ◌&&◌, ◌||◌, ◌==◌, nat_lt, not, List, [], ◌∷◌, ◌++◌, length, Option, Some, None, if◌then◌else◌}
use Rattle.std.specs.List.{list_all}
use Rattle.ffa_model.specs.declared.limits.TheConstants.{MOST_ENDPOINTS, MOST_REGIONS}
use Rattle.ffa_model.specs.declared.endpoint.Region.{Region}
use Rattle.ffa_model.specs.declared.endpoint.Version as versions
use Rattle.ffa_model.specs.declared.endpoint.Version.TheVariants.{V1_2}
use Rattle.ffa_model.specs.declared.endpoint.Endpoint.{Endpoint}
use Rattle.ffa_model.specs.declared.manifest.Ffa.{Ffa}
use Rattle.ffa_model.specs.declared.manifest.Ffa.TheVariants as served
use Rattle.ffa_model.specs.Bits.{is_set}
use Rattle.ffa_model.specs.Numbers.{PageIndex}
use Rattle.ffa_model.specs.Manifest.{has_tables, is_ram_base, is_ram_size, is_from_to, is_nil, is_placed, are_properties, regions_of}
use Rattle.ffa_manifest.specs.declared.error.ManifestError.{ManifestError}
use Rattle.ffa_manifest.specs.declared.error.ManifestError.TheVariants.{RamBase, RamBlocks, EndpointCount, Uuid, Property, RegionCount, RegionOutside, RegionOverlap, TablesOutside, Version}
use Rattle.ffa_manifest.specs.Regions.{is_free}
use Rattle.ffa_manifest.specs.Document.{Parts}

abbrev pub parts_from : Ffa → ℕ → PageIndex → ℕ → List Endpoint → Parts
parts_from ffa base tables blocks es = record { ram_base = base; ram_blocks = blocks; tables = tables; endpoints = es; ffa = ffa }

-- tests in order, each with the cause for which parts that fail it are refused
abbrev pub Tests : Type 0
Tests = List (Bool × ManifestError)

-- the cause of the first test that fails
abbrev pub first_failure : Tests → Option ManifestError
first_failure [] = None
first_failure (t ∷ ts) = if t.0 then first_failure ts else Some t.1

-- the tests of these things in order, those of each beside the things before it
abbrev pub tests_of_each : {A : Type 0} → (List A → A → Tests) → List A → List A → Tests
tests_of_each tests_of_one before [] = []
tests_of_each tests_of_one before (x ∷ xs) = tests_of_one before x ++ tests_of_each tests_of_one (before ++ x ∷ []) xs

-- the tests of a region, where some regions are taken
unfoldable pub region_tests : (Region → Bool) → List Region → Region → Tests
region_tests is_placed taken r = (is_placed r, RegionOutside) ∷ (is_free taken r, RegionOverlap) ∷ []

-- an endpoint of FF-A 1.2 needs a machine of FF-A 1.2, which may have endpoints of all versions
abbrev pub is_version : Ffa → versions.Version → Bool
is_version served.V1_1 V1_2 = false
is_version ffa version = true

abbrev pub have_versions : Ffa → List Endpoint → Bool
have_versions ffa es = list_all (λ (e : Endpoint). is_version ffa e.version) es

-- zeros for the normal world, which is the first endpoint, and other than zeros for a partition
abbrev pub is_uuid_after : List Endpoint → List ℕ → Bool
is_uuid_after before uuid = if length before == 0 then is_nil uuid else not (is_nil uuid)

-- the normal world receives neither direct requests nor, from boot, notifications, and a partition has those of its version
abbrev pub are_properties_after : List Endpoint → versions.Version → ℕ → Bool
are_properties_after before version n =
    if length before == 0 then nat_lt n 16 && not (is_set 0 n || is_set 3 n) else are_properties version n

-- the tests of an endpoint, after the endpoints before it
unfoldable pub endpoint_tests : Ffa → (Region → Bool) → List Endpoint → Endpoint → Tests
endpoint_tests ffa is_placed before e =
    (is_version ffa e.version, Version)
    ∷ (is_uuid_after before e.uuid, Uuid)
    ∷ (are_properties_after before e.version e.properties.0, Property)
    ∷ (is_from_to 1 MOST_REGIONS (length e.regions.items), RegionCount)
    ∷ tests_of_each (λ own r. region_tests is_placed (regions_of before ++ own) r) [] e.regions.items

-- the tests of a machine: RAM's place and size, the count of endpoints, whether RAM has their tables, and each endpoint whole before the next
unfoldable pub tests_of : Parts → Tests
tests_of parts =
    let tests = endpoint_tests parts.ffa (is_placed parts.ram_base parts.tables parts.ram_blocks (length parts.endpoints)) in
    (is_ram_base parts.ram_base, RamBase)
    ∷ (is_ram_size parts.ram_base parts.ram_blocks, RamBlocks)
    ∷ (is_from_to 1 MOST_ENDPOINTS (length parts.endpoints), EndpointCount)
    ∷ (has_tables parts.tables parts.ram_blocks (length parts.endpoints), TablesOutside)
    ∷ tests_of_each tests [] parts.endpoints

unfoldable pub first_cause : Parts → Option ManifestError
first_cause parts = first_failure (tests_of parts)
