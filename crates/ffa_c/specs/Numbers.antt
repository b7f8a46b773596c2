-- SPDX-License-Identifier: MIT OR Apache-2.0
-- FOR PROOFS ALONE
-- The numbers that C is told of parts.
use Rattle.std.specs.Prelude.{ℕ, ◌-◌, List, ◌++◌, length, map, replicate, Some}
use Rattle.ffa_model.specs.declared.limits.TheConstants.{MOST_ENDPOINTS, MOST_REGIONS}
use Rattle.ffa_model.specs.declared.endpoint.Endpoint.{Endpoint}
use Rattle.ffa_model.specs.declared.endpoint.Region.{Region}
use Rattle.ffa_model.specs.declared.endpoint.Version as versions
use Rattle.ffa_model.specs.declared.endpoint.Version.TheVariants.{Compact, V1_1, V1_2}
use Rattle.ffa_model.specs.declared.manifest.Ffa.{Ffa}
use Rattle.ffa_model.specs.declared.manifest.Ffa.TheVariants as served
use Rattle.ffa_manifest.specs.Document.{Parts}
use Rattle.ffa_c.specs.declared.manifest.CEndpoint.{CEndpoint}
use Rattle.ffa_c.specs.declared.manifest.CManifest.{CManifest}
use Rattle.ffa_c.specs.declared.manifest.CRegion.{CRegion}
use Rattle.ffa_c.specs.Border.{access_code}
use Rattle.ffa_c.specs.Reading.{no_endpoint, no_region}

-- these in an array of so many places, and behind them zeros
abbrev pub padded : {A : Type 0} → ℕ → A → List A → List A
padded places zero xs = xs ++ replicate (places - length xs) zero

abbrev pub version_number : versions.Version → ℕ
version_number V1_1 = 0
version_number Compact = 1
version_number V1_2 = 2

abbrev pub ffa_number : Ffa → ℕ
ffa_number served.V1_1 = 0
ffa_number served.V1_2 = 1

abbrev pub region_numbers : Region → CRegion
region_numbers r = record { base = r.base; pages = r.pages; rights = access_code (Some r.rights) }

abbrev pub endpoint_numbers : Endpoint → CEndpoint
endpoint_numbers e = record {
  version = version_number e.version;
  properties = e.properties.0;
  uuid = e.uuid;
  region_count = length e.regions.items;
  regions = padded MOST_REGIONS no_region (map region_numbers e.regions.items);
}

abbrev pub numbers : Parts → CManifest
numbers parts = record {
  ram_base = parts.ram_base;
  ram_blocks = parts.ram_blocks;
  endpoint_count = length parts.endpoints;
  endpoints = padded MOST_ENDPOINTS no_endpoint (map endpoint_numbers parts.endpoints);
  ffa = ffa_number parts.ffa;
  tables = parts.tables;
}
