-- SPDX-License-Identifier: MIT OR Apache-2.0
-- What the checks of pages say of a state.
use Rattle.std.proofs.Common.{◌≡◌, ℕ, true, Option, Some, None, is_some, refl, not}
use Rattle.std.specs.Option.{option_map_or}
use Rattle.ffa_model.specs.Identifiers.{manager}
use Rattle.ffa_model.specs.State.{State, Page, owner_of}
use Rattle.ffa_model.specs.Access.{Ownership, handle_at, ownership_of}
use Rattle.ffa_model.specs.Buffers.{is_own, is_usable}
use Rattle.std.proofs.lemmas.Bool.{and_parts, eqb-true, false≢true}

-- the owner of a page, which is the manager where no endpoint owns it
abbrev pub owned_by : Option Page → ℕ
owned_by o = option_map_or (λ (page : Page). page.owner) o manager

pub none-there : {X : Type 0} (o : Option X) → not (is_some o) ≡ true → o ≡ None
none-there None h = refl
none-there (Some x) is = absurd (false≢true is)

-- a page that e may send is e's own, and stands in no transaction
pub own-parts : (s : State) (e p : ℕ) → is_own e (ownership_of s) p ≡ true → (owner_of s p ≡ e) × (handle_at s p ≡ None)
own-parts s e p own =
    let (mine, free) = and_parts _ _ own in
    (eqb-true (owner_of s p) e (and_parts _ _ mine).1, none-there (handle_at s p) free)

-- so is one that may be a buffer of e
pub usable-parts : (s : State) (e p : ℕ) → is_usable e (ownership_of s) p ≡ true → (owner_of s p ≡ e) × (handle_at s p ≡ None)
usable-parts s e p usable = own-parts s e p (and_parts _ _ usable).0

-- RAM of s, with the owners of z, where the transactions of z name pages: what grants and ceilings read is as in s
abbrev pub with_rights_of : State → State → Ownership
with_rights_of s z = record (ownership_of s) { owner = owner_of z; is_named = (ownership_of z).is_named }
