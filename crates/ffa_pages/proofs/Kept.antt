-- SPDX-License-Identifier: MIT OR Apache-2.0
-- What is kept of a page, as an entry.
use Rattle.std.proofs.Common.{◌≡◌, ℕ, Bool, true, false, Option, Some, None, [], ◌==◌, if◌then◌else◌, option_map}
use Rattle.ffa_model.specs.declared.rights.Rights.{Rights}
use Rattle.ffa_model.specs.Identifiers.{manager}
use Rattle.ffa_pages.specs.declared.page.KeptPage.{KeptPage}
use Rattle.ffa_pages.specs.declared.page.Standing.{Standing}
use Rattle.ffa_pages.specs.Entry.{Entry}
use Rattle.ffa_pages.specs.Stored.{own_right_in, slot_in, standing_of, entry_of}

-- the entry of a page that an endpoint owns
pub entry_of-owned : (page : KeptPage) (right : Rights) (slot : Option ℕ) → (page.owner.0 == manager) ≡ false → own_right_in page.standing ≡ right → slot_in page.standing ≡ slot
    → entry_of page ≡ Some (record { owner = page.owner.0; own_right = right; slot = slot })
entry_of-owned page right slot owned is_right is_slot = rw owned cc

-- with another slot only the entry's slot is another
pub entry_of-marked : (page : KeptPage) (before after : Standing) (slot : Option ℕ) → Some before ≡ standing_of page → own_right_in after ≡ own_right_in before → slot_in after ≡ slot
    → entry_of (record page { standing = after }) ≡ option_map (λ (e : Entry). record e { slot = slot }) (entry_of page)
entry_of-marked page before after slot is is_right is_slot = of (page.owner.0 == manager) is
  where
    entry_if : Bool → Standing → Option Entry
    entry_if managers s = option_map (λ (t : Standing). record { owner = page.owner.0; own_right = own_right_in t; slot = slot_in t }) (if managers then None else Some s)

    of : (managers : Bool) → Some before ≡ (if managers then None else Some page.standing)
        → entry_if managers after ≡ option_map (λ (e : Entry). record e { slot = slot }) (entry_if managers page.standing)
    of true is = cc
    of false is = cc
