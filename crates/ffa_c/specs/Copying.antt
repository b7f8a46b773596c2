-- SPDX-License-Identifier: MIT OR Apache-2.0
-- What copying a machine tells C, and what C holds after it.
use Rattle.std.specs.Prelude.{◌≡◌, ℕ, ◌==◌, Bool, List, length, Option, None, Some, if◌then◌else◌}
use Rattle.ffa_c.specs.Boarded.{Boarded}

-- the same machine over RAM that is lent or not: its state, every byte of its RAM, what it has to tell of access that changed, and
-- who runs on each processor
pub record IsCopy (is_lent : Bool) (original copy : Boarded) : Type 0 where
  pub state : copy.machine.state ≡ original.machine.state
  pub ram : copy.machine.ram ≡ original.machine.ram
  pub told : copy.machine.told ≡ original.machine.told
  pub processors : copy.processors ≡ original.processors
  pub kind : copy.is_lent ≡ is_lent

-- the same of what C holds
abbrev pub HasCopied : Bool → Option Boarded → Option Boarded → Type 0
HasCopied is_lent None copy = ⊥
HasCopied is_lent (Some original) None = ⊥
HasCopied is_lent (Some original) (Some copy) = IsCopy is_lent original copy

-- whether what C holds can be copied to this place, as C is told: there has to be no machine there, and one to copy
abbrev pub copied_answer : Option Boarded → Option Boarded → ℕ
copied_answer (Some there) original = 15
copied_answer None None = 19
copied_answer None (Some original) = 0

-- and into the pages of a list: there has to be a list too, with as many pages as the machine's RAM has
abbrev pub copied_lent_answer : Option Boarded → Option (List (List ℕ)) → Option Boarded → ℕ
copied_lent_answer (Some there) list original = 15
copied_lent_answer None None original = 16
copied_lent_answer None (Some pages) None = 19
copied_lent_answer None (Some pages) (Some original) = if length pages == length original.machine.ram.pages then 0 else 20
