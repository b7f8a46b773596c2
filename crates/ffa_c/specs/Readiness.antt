-- SPDX-License-Identifier: MIT OR Apache-2.0
-- FOR PROOFS ALONE
-- How many pages RAM may have so that a machine in it takes no memory: as many as its room has, where all else is there
-- too.
use Rattle.std.specs.Prelude.{ℕ, Bool, true, false, length, Option, None, Some}
use Rattle.ffa_spmc.specs.declared.storage.Storage.{Storage}

abbrev pub storage_pages : {S P O : Type 0} → Option (Storage S P O) → ℕ
storage_pages None = 0
storage_pages (Some s) = length s.pages

abbrev pub ready_pages : {S P O : Type 0} → Bool → Bool → Option (Storage S P O) → ℕ
ready_pages true true storage = storage_pages storage
ready_pages true false storage = 0
ready_pages false seat storage = 0
