-- SPDX-License-Identifier: MIT OR Apache-2.0
-- FOR PROOFS ALONE
-- Steps as a history tells them.
use Rattle.std.proofs.Common.{◌≡◌, List, [], ◌∷◌, Some, ap, refl, subst, sym}
use Rattle.std.proofs.lemmas.Option.{same_Some}
use Rattle.ffa_model.specs.Ram.{Ram}
use Rattle.ffa_physmem.specs.Moments.{AreInTurn, OneMore, Step}
use Rattle.ffa_lent.specs.Beneath.{beneath-base, beneath-size}
use Rattle.ffa_lent.specs.History.{Event, before, steps_of}

-- whatever was done, each step ends where the next begins
pub in-turn : (ram : Ram) (events : List Event) → AreInTurn (steps_of ram events) ram
in-turn ram [] = tt
in-turn ram (e ∷ earlier) = (
  refl,
  record { base = sym (beneath-base ram e.first e.had); size = sym (beneath-size ram e.first e.had) },
  in-turn (before ram e) earlier,
)

-- what is done once is one step more, where it tells how to go back
pub one-more :
    (old new : Ram) (e : Event) (earlier : List Event) (P : Step → Type 0) → before new e ≡ old
    → P (record { before = old; after = new; settled = e.settled; reading = e.reading; words = e.words; loans = e.loans })
    → OneMore (Some (steps_of old earlier)) (Some (steps_of new (e ∷ earlier))) P
one-more old new e earlier P back its h there = (
  record { before = before new e; after = new; settled = e.settled; reading = e.reading; words = e.words; loans = e.loans },
  steps_of (before new e) earlier,
  sym (same_Some _ h there),
  ap (λ (r : Ram). Some (steps_of r earlier)) (sym back),
  subst (λ (r : Ram). P (record { before = r; after = new; settled = e.settled; reading = e.reading; words = e.words; loans = e.loans })) (sym back) its,
)
