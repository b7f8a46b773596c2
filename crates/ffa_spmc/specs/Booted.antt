-- SPDX-License-Identifier: MIT OR Apache-2.0
-- What a boot leaves.
use Rattle.std.specs.Prelude.{◌≡◌, ℕ, ◌<◌, None, length, replicate}
use Rattle.ffa_model.specs.declared.manifest.Manifest.{Manifest}
use Rattle.ffa_model.specs.Access.{access}
use Rattle.ffa_model.specs.Agreement.{Agrees}
use Rattle.ffa_model.specs.First.{first, first_held}
use Rattle.ffa_model.specs.Identifiers.{identifier}
use Rattle.ffa_model.specs.Ram.{Ram, page_of}
use Rattle.ffa_model.specs.SoundState.{IsSoundState}
use Rattle.ffa_model.specs.State.{State, page_at}
use Rattle.ffa_stage2.specs.Tables.{InBlock}
use Rattle.ffa_spmc.specs.declared.fill.Fill.{Fill}
use Rattle.ffa_spmc.specs.declared.fill.Fill.TheVariants.{AlreadyZero, Clear, KeepRegions}
use Rattle.ffa_spmc.specs.Unowned.{IsNoTable}

-- the words by which the tables give the access, so also memory's type and whom it is shared with: in each endpoint's tables a
-- block of RAM is the block of a right, or else the level 3 page whose words are the descriptors of its pages
abbrev pub AreDescribed : ℕ → ℕ → State → Ram → Type 0
AreDescribed tables blocks s ram =
    (e k : ℕ) → e < length s.parties → k < blocks → InBlock ram tables blocks e (access s (identifier e)) k

-- the first state of a manifest, which RAM's tables give and which is sound
pub record IsBooted (m : Manifest) (s : State) (ram : Ram) : Type 0 where
  pub state : s ≡ first m.ffa m.ram_base.0 m.tables.0 m.ram_blocks m.endpoints.items
  pub agrees : Agrees ram s
  pub words : AreDescribed m.tables.0 m.ram_blocks s ram
  -- pages but the tables' are zeros
  pub cleared : (p : ℕ) → IsNoTable s p → p < length ram.pages → page_of ram p ≡ replicate 4096 0
  pub sound : IsSoundState s

-- the same where the pages of regions keep the bytes of the RAM that was given
pub record IsBootedHeld (m : Manifest) (given : Ram) (s : State) (ram : Ram) : Type 0 where
  pub state : s ≡ first_held m.ffa m.ram_base.0 m.tables.0 m.ram_blocks m.endpoints.items (page_of given)
  pub agrees : Agrees ram s
  pub words : AreDescribed m.tables.0 m.ram_blocks s ram
  -- pages but the tables' that no endpoint owns are zeros
  pub cleared : (p : ℕ) → IsNoTable s p → p < length ram.pages → page_at s p ≡ None → page_of ram p ≡ replicate 4096 0
  pub sound : IsSoundState s

-- by what the boot did with the bytes of the RAM that was given
abbrev pub IsBootedBy : Fill → Manifest → Ram → State → Ram → Type 0
IsBootedBy Clear m given s ram = IsBooted m s ram
IsBootedBy AlreadyZero m given s ram = IsBooted m s ram
IsBootedBy KeepRegions m given s ram = IsBootedHeld m given s ram
