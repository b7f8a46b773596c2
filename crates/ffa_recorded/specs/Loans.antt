-- SPDX-License-Identifier: MIT OR Apache-2.0
-- FOR PROOFS ALONE
-- The record of a page that is lent to be written.
use Rattle.std.specs.Prelude.{◌≡◌, ℕ, ◌+◌, ◌<◌, nat_lt, Bool, true, false, List, [], ◌∷◌, ◌++◌, take, vec_len, if◌then◌else◌}
use Rattle.std.specs.Vec.{with_item}
use Rattle.std.proofs.Common.{refl, arith}
use Rattle.std.proofs.lemmas.Bool.{ltb-true}
use Rattle.std.proofs.lemmas.List.{take_more_set}
use Rattle.ffa_model.specs.Ram.{Ram, page_of, with_page}
use Rattle.ffa_physmem.specs.Moments.{IsInLoan, Only, Past}
use Rattle.ffa_physmem.specs.Work.{Spends, loans_of}
use Rattle.ffa_physmem.specs.Unrecorded.{no_site, no_spending, no_steps}
use Rattle.ffa_recorded.specs.Records.{history}
use Rattle.ffa_recorded.specs.Steps.{loan-spends, loan-step}
use Rattle.ffa_recorded.specs.declared.recorded.Noted.{Noted}
use Rattle.ffa_recorded.specs.declared.recorded.Noted.TheVariants.{Written}
use Rattle.ffa_recorded.specs.declared.recorded.Recorded.{Recorded}

abbrev pub ram_of : Recorded → Ram
ram_of m = record { base = m.ram.base.0; pages = m.ram.pages.items }

-- what was noted, in order
abbrev pub noted_in : Recorded → List Noted
noted_in m = take m.noted m.places.items

-- whether there is room for one step more
abbrev pub has_room : Recorded → Bool
has_room m = nat_lt m.noted (vec_len m.places)

-- a page with the bytes that it has
abbrev pub held_in : Recorded → ℕ → Noted
held_in m page = Written (record { page = record { 0 = page }; bytes = page_of (ram_of m) page })

-- the same RAM, with a page noted that is lent from now on, where there is room for that; else the record has ended
abbrev pub with_loan : Recorded → ℕ → Recorded
with_loan m page = record m {
  places = if has_room m then with_item m.places m.noted (held_in m page) else m.places;
  noted = if has_room m then m.noted + 1 else m.noted;
  is_kept = if has_room m then m.is_kept else false;
}

-- and the page has other bytes behind the loan
abbrev pub with_bytes : Recorded → ℕ → List ℕ → Recorded
with_bytes m page bytes =
    let lent = with_loan m page in record lent { ram = record m.ram { pages = with_item m.ram.pages page bytes } }

module _ (m : Recorded) (page : ℕ) (bytes : List ℕ) where
  -- by whether there was room for one step more
  abbrev lent_if : Bool → Past
  lent_if c =
      history (if c then m.is_kept else false) (with_page (ram_of m) page bytes)
      (take (if c then m.noted + 1 else m.noted)
      (if c then with_item m.places m.noted (held_in m page) else m.places).items)

  more : has_room m ≡ true → take (m.noted + 1) (with_item m.places m.noted (held_in m page)).items ≡ take m.noted m.places.items ++ held_in m page ∷ []
  more is = take_more_set m.places.items m.noted (held_in m page) (omega (arith, ltb-true _ _ is, m.places.ok.0))

  -- a loan is one step, or the record ends
  pub in_loan :
      Only (history m.is_kept (ram_of m) (noted_in m))
      (history (with_loan m page).is_kept (with_page (ram_of m) page bytes) (noted_in (with_loan m page)))
      (λ _ s. IsInLoan (ram_of m) page s)
  in_loan = of (has_room m) (λ is. more is)
    where
      of :
          (c : Bool) → (c ≡ true → take (m.noted + 1) (with_item m.places m.noted (held_in m page)).items ≡ take m.noted m.places.items ++ held_in m page ∷ [])
          → Only (history m.is_kept (ram_of m) (noted_in m)) (lent_if c) (λ _ s. IsInLoan (ram_of m) page s)
      of false room = no_steps refl
      of true room =
          loan-step (ram_of m) (with_page (ram_of m) page bytes) (noted_in m) _ (record { 0 = page }) _ bytes refl refl
          m.is_kept m.is_kept (λ is. is) (λ _. room refl)

  pub one_loan :
      Spends (history m.is_kept (ram_of m) (noted_in m))
      (history (with_loan m page).is_kept (with_page (ram_of m) page bytes) (noted_in (with_loan m page)))
      (loans_of 1)
  one_loan = of (has_room m) (λ is. more is)
    where
      of :
          (c : Bool) → (c ≡ true → take (m.noted + 1) (with_item m.places m.noted (held_in m page)).items ≡ take m.noted m.places.items ++ held_in m page ∷ [])
          → Spends (history m.is_kept (ram_of m) (noted_in m)) (lent_if c) (loans_of 1)
      of false room = no_spending no_site (loans_of 1)
      of true room =
          loan-spends (ram_of m) (with_page (ram_of m) page bytes) (noted_in m) _ (record { 0 = page }) _ bytes refl refl
          m.is_kept m.is_kept (λ is. is) (λ _. room refl)
