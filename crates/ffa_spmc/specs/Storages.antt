-- SPDX-License-Identifier: MIT OR Apache-2.0
-- Room for what a machine keeps of pages and open transactions.
use Rattle.std.specs.Prelude.{◌≡◌, ◌*◌, None, length, replicate}
use Rattle.ffa_model.specs.declared.limits.TheConstants.{MOST_OPEN}
use Rattle.ffa_model.specs.declared.manifest.Manifest.{Manifest}
use Rattle.ffa_spmc.specs.declared.storage.Storage.{Storage}

-- it has an entry for each page of the manifest's RAM, and its slots are free, for each of the endpoints
pub record IsRoomFor {S P O : Type 0} (m : Manifest) (storage : Storage S P O) : Type 0 where
  pub pages : length storage.pages ≡ 512 * m.ram_blocks
  pub slots : storage.pool.slots ≡ replicate (MOST_OPEN * length m.endpoints.items) None
  pub sent : storage.pool.sent ≡ replicate (length m.endpoints.items) 0
