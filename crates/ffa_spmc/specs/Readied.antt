-- SPDX-License-Identifier: MIT OR Apache-2.0
-- FOR PROOFS ALONE
-- RAM in which a machine begins.
use Rattle.std.specs.Prelude.{◌≡◌, ◌≢◌, ◌<◌, ℕ, ◌*◌, length, replicate}
use Rattle.ffa_model.specs.declared.manifest.Manifest.{Manifest}
use Rattle.ffa_model.specs.Identifiers.{manager}
use Rattle.ffa_model.specs.Ram.{Ram, page_of, zero_ram}
use Rattle.ffa_model.specs.Regions.{owner_in}
use Rattle.ffa_model.specs.SoundState.{are_bytes}
use Rattle.ffa_spmc.specs.declared.fill.Fill.{Fill}
use Rattle.ffa_spmc.specs.declared.fill.Fill.TheVariants.{AlreadyZero, Clear, KeepRegions}

-- the owner of a page at first
abbrev pub first_owner : Manifest → ℕ → ℕ
first_owner m p = owner_in m.ram_base.0 m.endpoints.items p

-- it stands where the manifest says, its regions have bytes, and all other pages are zeros
pub record IsReadyFor (m : Manifest) (ram : Ram) : Type 0 where
  pub base : ram.base ≡ m.ram_base.0
  pub size : length ram.pages ≡ 512 * m.ram_blocks
  pub whole : (p : ℕ) → p < length ram.pages → first_owner m p ≢ manager
      → (length (page_of ram p) ≡ 4096) × are_bytes (page_of ram p)
  pub cleared : (p : ℕ) → p < length ram.pages → first_owner m p ≡ manager → page_of ram p ≡ replicate 4096 0

-- it is made of the RAM that was given: zeros, or with the bytes that regions had there
abbrev pub IsFilled : Fill → Manifest → Ram → Ram → Type 0
IsFilled Clear m given ram = ram ≡ zero_ram m.ram_base.0 (512 * m.ram_blocks)
IsFilled AlreadyZero m given ram = ram ≡ zero_ram m.ram_base.0 (512 * m.ram_blocks)
IsFilled KeepRegions m given ram = IsReadyFor m ram × ((p : ℕ) → first_owner m p ≢ manager → page_of ram p ≡ page_of given p)
