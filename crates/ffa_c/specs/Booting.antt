-- SPDX-License-Identifier: MIT OR Apache-2.0
-- What a boot tells C, and what C holds after it.
use Rattle.std.specs.Prelude.{◌≡◌, ◌≢◌, ◌⊎◌, ⊤, ℕ, ◌*◌, ◌<◌, Bool, List, [], length, replicate, slice_index_or, Option, None, Some, Ok, Err, IsUtf8}
use Rattle.ffa_model.specs.Agreement.{Agrees}
use Rattle.ffa_model.specs.First.{first, first_held}
use Rattle.ffa_model.specs.Processors.{first_processors}
use Rattle.ffa_model.specs.Ram.{page_of}
use Rattle.ffa_model.specs.SoundState.{IsSoundState}
use Rattle.ffa_model.specs.State.{page_at}
use Rattle.ffa_model.specs.declared.manifest.Ffa.TheVariants.{V1_1}
use Rattle.ffa_manifest.specs.Document.{Parts, machine_of}
use Rattle.ffa_manifest.specs.declared.error.ManifestError.{ManifestError}
use Rattle.ffa_manifest.specs.declared.error.ManifestError.TheVariants as causes
use Rattle.ffa_spmc.specs.Booted.{AreDescribed}
use Rattle.ffa_spmc.specs.Snapshot.{Snapshot}
use Rattle.ffa_spmc.specs.Unowned.{IsNoTable}
use Rattle.ffa_c.specs.Boarded.{Boarded}
use Rattle.ffa_c.specs.declared.board.FirstBytes.{FirstBytes}
use Rattle.ffa_c.specs.declared.board.FirstBytes.TheVariants.{Cleared, Kept}

-- the number of a cause, as the manual gives it after the letter M
abbrev pub cause_number : ManifestError → ℕ
cause_number causes.NoMemory = 1
cause_number causes.Toml = 2
cause_number causes.UnknownKey = 3
cause_number causes.MissingKey = 4
cause_number causes.WrongKind = 5
cause_number causes.RamBase = 6
cause_number causes.RamBlocks = 7
cause_number causes.EndpointCount = 8
cause_number causes.Uuid = 9
cause_number causes.Property = 10
cause_number causes.RegionCount = 11
cause_number causes.RegionOutside = 12
cause_number causes.RegionOverlap = 13
cause_number causes.Version = 14
cause_number causes.TablesOutside = 25

-- the machine of these parts in its first state: the tables give its access, by the descriptors of pages and blocks, all
-- other pages are zeros, and nothing is told of access that changed
pub record IsFirst (parts : Parts) (s : Snapshot) : Type 0 where
  pub state : s.state ≡ first parts.ffa parts.ram_base parts.tables parts.ram_blocks parts.endpoints
  pub agrees : Agrees s.ram s.state
  pub words : AreDescribed parts.tables parts.ram_blocks s.state s.ram
  pub cleared : (p : ℕ) → IsNoTable s.state p → p < length s.ram.pages → page_of s.ram p ≡ replicate 4096 0
  pub sound : IsSoundState s.state
  pub told : s.told ≡ None

-- the same where pages of its regions have the bytes of pages that are given, and all others but the tables' are zeros
pub record IsFirstHeld (pages : List (List ℕ)) (parts : Parts) (s : Snapshot) : Type 0 where
  pub state : s.state ≡ first_held parts.ffa parts.ram_base parts.tables parts.ram_blocks parts.endpoints (λ p. slice_index_or pages p [])
  pub agrees : Agrees s.ram s.state
  pub words : AreDescribed parts.tables parts.ram_blocks s.state s.ram
  pub cleared :
      (p : ℕ) → IsNoTable s.state p → p < length s.ram.pages → page_at s.state p ≡ None
      → page_of s.ram p ≡ replicate 4096 0
  pub sound : IsSoundState s.state
  pub told : s.told ≡ None

-- by what a boot does with the bytes of lent pages
abbrev pub IsFirstBy : FirstBytes → List (List ℕ) → Parts → Snapshot → Type 0
IsFirstBy Cleared pages parts s = IsFirst parts s
IsFirstBy Kept pages parts s = IsFirstHeld pages parts s

-- the machine of parts that C described is in a first state, in which the normal world runs on all processors, over RAM that is
-- lent or not
pub record IsBooted (describes : Parts → Type 0) (begins : Parts → Snapshot → Type 0)
    (is_lent : Bool) (b : Boarded) : Type 0 where
  pub parts : Parts
  pub described : describes parts
  pub begun : begins parts b.machine
  pub processors : b.processors ≡ first_processors
  pub kind : b.is_lent ≡ is_lent

-- the same of what C holds
abbrev pub HasBegun : (Parts → Type 0) → (Parts → Snapshot → Type 0) → Bool → Option Boarded → Type 0
HasBegun describes begins is_lent None = ⊥
HasBegun describes begins is_lent (Some b) = IsBooted describes begins is_lent b

abbrev pub HasBooted : (Parts → Type 0) → Bool → Option Boarded → Type 0
HasBooted describes is_lent held = HasBegun describes IsFirst is_lent held

-- the number of a cause for which a manifest may be refused
abbrev pub TellsCause : (ManifestError → Type 0) → ℕ → Type 0
TellsCause is_cause number = (cause : ManifestError) × (number ≡ cause_number cause) × is_cause cause

-- the manifest is of a machine whose RAM has another number of pages than are lent
pub record IsWrongCount (describes : Parts → Type 0) (pages number : ℕ) : Type 0 where
  pub parts : Parts
  pub described : describes parts
  pub differs : pages ≢ 512 * parts.ram_blocks
  pub told : number ≡ 20

-- the number tells why a manifest isn't booted in the pages of a list, if there is a list
abbrev pub TellsWhy : (Parts → Type 0) → (ManifestError → Type 0) → Option (List (List ℕ)) → ℕ → Type 0
TellsWhy describes is_cause None number = ⊤
TellsWhy describes is_cause (Some pages) number =
    TellsCause is_cause number ⊎ IsWrongCount describes (length pages) number

-- a text describes these parts, of a machine of FF-A 1.1
abbrev pub Describes : List ℕ → Parts → Type 0
Describes text parts = IsUtf8 text × (machine_of V1_1 text ≡ Ok parts)

-- a text is refused for this cause: it is no UTF-8, or as its reading says; for want of memory any text may be
pub record IsRefusedFor (text : List ℕ) (cause : ManifestError) : Type 0 where
  pub garbled : ¬ (IsUtf8 text) → cause ≡ causes.Toml
  pub read : IsUtf8 text → cause ≢ causes.NoMemory → machine_of V1_1 text ≡ Err cause
