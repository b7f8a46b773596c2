-- SPDX-License-Identifier: MIT OR Apache-2.0
-- What reading a manifest's text into numbers leaves.
use Rattle.std.specs.Prelude.{◌≡◌, ℕ, List, All, drop, replicate}
use Rattle.ffa_model.specs.declared.limits.TheConstants.{MOST_REGIONS}
use Rattle.ffa_manifest.specs.Document.{Parts}
use Rattle.ffa_c.specs.declared.manifest.CEndpoint.{CEndpoint}
use Rattle.ffa_c.specs.declared.manifest.CManifest.{CManifest}
use Rattle.ffa_c.specs.declared.manifest.CRegion.{CRegion}
use Rattle.ffa_c.specs.Booting.{Describes}
use Rattle.ffa_c.specs.Given.{Gives}

-- the numbers give what the text describes
pub record IsRead (text : List ℕ) (told : CManifest) : Type 0 where
  pub parts : Parts
  pub described : Describes text parts
  pub given : Gives told parts

abbrev pub no_region : CRegion
no_region = record { base = 0; pages = 0; rights = 0 }

abbrev pub no_endpoint : CEndpoint
no_endpoint = record {
  version = 0;
  properties = 0;
  uuid = replicate 16 0;
  region_count = 0;
  regions = replicate MOST_REGIONS no_region;
}

-- behind the endpoints and the regions that are counted stand zeros
pub record IsClear (told : CManifest) : Type 0 where
  pub endpoints : All (λ (e : CEndpoint). e ≡ no_endpoint) (drop told.endpoint_count told.endpoints)
  pub regions : All (λ (e : CEndpoint). All (λ (r : CRegion). r ≡ no_region) (drop e.region_count e.regions)) told.endpoints
