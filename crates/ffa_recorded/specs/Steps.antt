-- SPDX-License-Identifier: MIT OR Apache-2.0
-- FOR PROOFS ALONE
-- One more step in the record.
use Rattle.std.proofs.Common.{◌≡◌, ◌∙◌, ℕ, zero, suc, Bool, true, false, List, [], ◌∷◌, ◌++◌, get_or, set, Option, Some, None, refl, sym, ap}
use Rattle.std.specs.Prelude.{reverse}
use Rattle.std.proofs.lemmas.Bool.{false≢true}
use Rattle.std.proofs.lemmas.Option.{none-some}
use Rattle.std.proofs.lemmas.List.{reverse-append}
use Rattle.ffa_model.specs.declared.endpoint.PageNo.{PageNo}
use Rattle.ffa_model.specs.Ram.{Ram, page_of, with_page}
use Rattle.ffa_physmem.specs.Moments.{IsInLoan, One, Only, Step}
use Rattle.ffa_physmem.specs.Work.{Spends, loans_of, work_of}
use Rattle.ffa_physmem.proofs.Moments.{Only-map, Only-one}
use Rattle.ffa_physmem.proofs.Work.{one-spends}
use Rattle.ffa_recorded.specs.declared.recorded.Noted.{Noted}
use Rattle.ffa_recorded.specs.declared.recorded.Noted.TheVariants.{Written}
use Rattle.ffa_recorded.specs.Records.{history, step_to, steps_to}

-- a page written twice, the second time with what it held
set-back : {A : Type 0} (xs : List A) (i : ℕ) (y d : A) → set (set xs i y) i (get_or xs i d) ≡ xs
set-back [] i y d = refl
set-back (x ∷ xs) zero y d = refl
set-back (x ∷ xs) (suc i) y d = ap (λ l. x ∷ l) (set-back xs i y d)

pub page-back : (ram : Ram) (p : ℕ) (bytes : List ℕ) → with_page (with_page ram p bytes) p (page_of ram p) ≡ ram
page-back ram p bytes = ap (λ pages. record ram { pages = pages }) (set-back ram.pages p bytes [])

-- a page written with what it holds
set-same : {A : Type 0} (xs : List A) (i : ℕ) (d : A) → set xs i (get_or xs i d) ≡ xs
set-same [] i d = refl
set-same (x ∷ xs) zero d = refl
set-same (x ∷ xs) (suc i) d = ap (λ l. x ∷ l) (set-same xs i d)

page-same : (ram : Ram) (p : ℕ) → with_page ram p (page_of ram p) ≡ ram
page-same ram p = ap (λ pages. record ram { pages = pages }) (set-same ram.pages p [])

abbrev pub kept_of : Option (List Step) → List Step
kept_of None = []
kept_of (Some h) = h

-- a step from one RAM to the next, as it is noted
module _ (old new : Ram) (before after : List Noted) (noted : Noted) (P : Step → Type 0) (from : (step_to new noted).before ≡ old) (its : P (step_to new noted)) where
  kept-step : after ≡ before ++ noted ∷ [] → One (history true old before) (history true new after) P
  kept-step more = record {
    site = refl;
    each = λ h there. (
      step_to new noted,
      steps_to old (reverse before),
      sym (ap kept_of there) ∙ ap (λ l. steps_to new (reverse l)) more ∙ ap (steps_to new) (reverse-append before (noted ∷ []))
          ∙ ap (λ r. step_to new noted ∷ steps_to r (reverse before)) from,
      refl,
      its,
    );
  }

  pub recorded-step : (was is : Bool) → (is ≡ true → was ≡ true) → (is ≡ true → after ≡ before ++ noted ∷ []) → One (history was old before) (history is new after) P
  recorded-step was false kept more = record { each = λ h none. absurd (none-some h none); site = refl }
  recorded-step true true kept more = kept-step (more refl)
  recorded-step false true kept more = absurd (false≢true (kept refl))

-- a page that got other bytes, with those that it held noted, in one step
pub loan-noted : (old new : Ram) (before after : List Noted) (page : PageNo) (held bytes : List ℕ) → held ≡ page_of old page.0 → new ≡ with_page old page.0 bytes → (was is : Bool)
    → (is ≡ true → was ≡ true) → (is ≡ true → after ≡ before ++ Written (record { page = page; bytes = held }) ∷ [])
    → One (history was old before) (history is new after) (λ s. IsInLoan old page.0 s × (work_of s ≡ loans_of 1))
loan-noted old new before after page held bytes holds wrote was is kept more =
    let back : with_page new page.0 held ≡ old =
    ap (with_page new page.0) holds ∙ ap (λ (r : Ram). with_page r page.0 (page_of old page.0)) wrote ∙ page-back old page.0 bytes in
    recorded-step old new before after (Written (record { page = page; bytes = held })) (λ s. IsInLoan old page.0 s × (work_of s ≡ loans_of 1)) back
    (record { from = page_of old page.0; to = bytes; before = back ∙ sym (page-same old page.0); after = wrote; none = refl; unread = refl }, refl)
    was is kept more

pub loan-step : (old new : Ram) (before after : List Noted) (page : PageNo) (held bytes : List ℕ) → held ≡ page_of old page.0 → new ≡ with_page old page.0 bytes → (was is : Bool)
    → (is ≡ true → was ≡ true) → (is ≡ true → after ≡ before ++ Written (record { page = page; bytes = held }) ∷ [])
    → Only (history was old before) (history is new after) (λ _ s. IsInLoan old page.0 s)
loan-step old new before after page held bytes holds wrote was is kept more =
    Only-map (Only-one (loan-noted old new before after page held bytes holds wrote was is kept more)) (λ _ s its. its.0)

pub loan-spends : (old new : Ram) (before after : List Noted) (page : PageNo) (held bytes : List ℕ) → held ≡ page_of old page.0 → new ≡ with_page old page.0 bytes → (was is : Bool)
    → (is ≡ true → was ≡ true) → (is ≡ true → after ≡ before ++ Written (record { page = page; bytes = held }) ∷ [])
    → Spends (history was old before) (history is new after) (loans_of 1)
loan-spends old new before after page held bytes holds wrote was is kept more =
    one-spends _ _ (loans_of 1) (loan-noted old new before after page held bytes holds wrote was is kept more).each (λ s its. its.1)
