-- SPDX-License-Identifier: MIT OR Apache-2.0
-- Room and RAM for a copy of a machine.
use Rattle.std.specs.Prelude.{◌≡◌, length}
use Rattle.ffa_model.specs.Ram.{Ram}
use Rattle.ffa_spmc.specs.Snapshot.{Snapshot}
use Rattle.ffa_spmc.specs.declared.storage.Storage.{Storage}

-- the room is for as many pages and endpoints as the machine has
pub record IsRoomToCopy {S P O : Type 0} (x : Snapshot) (storage : Storage S P O) : Type 0 where
  pub pages : length storage.pages ≡ length x.ram.pages
  pub endpoints : length storage.pool.sent ≡ length x.state.parties

-- the RAM stands where the machine's does, and has as many pages
pub record IsRamToCopy (x : Snapshot) (ram : Ram) : Type 0 where
  pub base : ram.base ≡ x.ram.base
  pub size : length ram.pages ≡ length x.ram.pages
