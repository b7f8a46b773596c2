-- SPDX-License-Identifier: MIT OR Apache-2.0
-- The endpoints: the normal world, then the partitions.
use Rattle.std.specs.Prelude.{ℕ, Bool, ◌||◌, ◌==◌, List, [], ◌∷◌, length, replicate, Result, Ok, Err, if◌then◌else◌, codes, bytes_eq}
use Rattle.uuid.specs.Text.{parsed}
use Rattle.toml.specs.Data.{Data, Items, Members, as_table}
use Rattle.ffa_model.specs.declared.limits.TheConstants.{MOST_ENDPOINTS}
use Rattle.ffa_model.specs.declared.endpoint.Version as versions
use Rattle.ffa_model.specs.declared.endpoint.Version.TheVariants.{Compact, V1_1, V1_2}
use Rattle.ffa_model.specs.declared.endpoint.Region.{Region}
use Rattle.ffa_model.specs.declared.endpoint.Endpoint.{Endpoint}
use Rattle.ffa_model.specs.declared.manifest.Ffa.{Ffa}
use Rattle.ffa_model.specs.declared.manifest.Ffa.TheVariants as served
use Rattle.ffa_model.specs.Bits.{is_set}
use Rattle.ffa_model.specs.Manifest.{are_properties, is_nil, regions_of}
use Rattle.ffa_manifest.specs.declared.error.ManifestError.{ManifestError}
use Rattle.ffa_manifest.specs.declared.error.ManifestError.TheVariants.{WrongKind, EndpointCount, Uuid, Property, Version}
use Rattle.ffa_manifest.specs.Reading.{◌>>=◌, or_cause, tested, read_each}
use Rattle.ffa_manifest.specs.Keys.{only_keys, integer_at, text_at, items_at}
use Rattle.ffa_manifest.specs.Regions.{regions_at}

unfoldable pub normal_world_keys : Members → Result (Unit {0}) ManifestError
normal_world_keys ms = only_keys (codes "version" ∷ codes "properties" ∷ codes "regions" ∷ []) ms

unfoldable pub partition_keys : Members → Result (Unit {0}) ManifestError
partition_keys ms = only_keys (codes "version" ∷ codes "uuid" ∷ codes "properties" ∷ codes "regions" ∷ []) ms

-- the version that a text names, where the machine serves this version of FF-A
unfoldable pub version_of : Ffa → List ℕ → Result versions.Version ManifestError
version_of served.V1_1 text =
    if bytes_eq text (codes "1.1") then Ok V1_1
    else if bytes_eq text (codes "compact") then Ok Compact
    else Err Version
version_of served.V1_2 text =
    if bytes_eq text (codes "1.1") then Ok V1_1
    else if bytes_eq text (codes "1.2") then Ok V1_2
    else if bytes_eq text (codes "compact") then Ok Compact
    else Err Version

unfoldable pub version_at : Ffa → Members → Result versions.Version ManifestError
version_at ffa ms = text_at (codes "version") ms >>= version_of ffa

-- the bytes that a text writes, which aren't all 0
unfoldable pub identifier : List ℕ → Result (List ℕ) ManifestError
identifier text = do
  uuid ← or_cause Uuid (parsed text)
  if is_nil uuid then Err Uuid else Ok uuid

unfoldable pub uuid_at : Members → Result (List ℕ) ManifestError
uuid_at ms = text_at (codes "uuid") ms >>= identifier

-- the properties of a partition that is built for this version
unfoldable pub properties_at : versions.Version → Members → Result ℕ ManifestError
properties_at version ms = integer_at (codes "properties") ms >>= tested (are_properties version) Property

-- the normal world has those of FF-A 1.1 in any version, and receives neither direct requests nor, from boot, notifications
unfoldable pub normal_world_properties : Members → Result ℕ ManifestError
normal_world_properties ms = do
  n ← properties_at V1_1 ms
  if is_set 0 n || is_set 3 n then Err Property else Ok n

abbrev pub endpoint_of : versions.Version → List ℕ → ℕ → List Region → Endpoint
endpoint_of version uuid properties regions = record {
  version = version;
  uuid = uuid;
  properties = record { 0 = properties };
  regions = record { items = regions };
}

-- the first table
unfoldable pub normal_world : Ffa → (Region → Bool) → Members → Result Endpoint ManifestError
normal_world ffa is_placed ms = do
  known ← normal_world_keys ms
  version ← version_at ffa ms
  properties ← normal_world_properties ms
  regions ← regions_at is_placed [] ms
  Ok (endpoint_of version (replicate 16 0) properties regions)

-- a table after those of these endpoints
unfoldable pub partition : Ffa → (Region → Bool) → List Endpoint → Members → Result Endpoint ManifestError
partition ffa is_placed before ms = do
  known ← partition_keys ms
  version ← version_at ffa ms
  uuid ← uuid_at ms
  properties ← properties_at version ms
  regions ← regions_at is_placed (regions_of before) ms
  Ok (endpoint_of version uuid properties regions)

-- the next endpoint of the array, after these
unfoldable pub next_endpoint : Ffa → (Region → Bool) → List Endpoint → Data → Result Endpoint ManifestError
next_endpoint ffa is_placed before d = do
  ms ← or_cause WrongKind (as_table d)
  if length before == 0 then normal_world ffa is_placed ms else partition ffa is_placed before ms

unfoldable pub endpoints_from : Ffa → (Region → Bool) → Items → Result (List Endpoint) ManifestError
endpoints_from ffa is_placed ds = read_each (next_endpoint ffa is_placed) [] ds

unfoldable pub endpoint_items : Members → Result Items ManifestError
endpoint_items ms = items_at (codes "endpoint") MOST_ENDPOINTS EndpointCount ms
