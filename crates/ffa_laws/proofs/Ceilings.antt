-- SPDX-License-Identifier: MIT OR Apache-2.0
-- Own rights and ceilings of a transaction that the viewer sent or is offered: a view has them.
use Rattle.std.proofs.Common.{◌≡◌, ◌∙◌, ℕ, Bool, true, length, Option, Some, refl, ap, ◌==◌, ◌||◌, filter}
use Rattle.std.specs.List.{list_all}
use Rattle.std.specs.Option.{option_and_then, option_map}
use Rattle.ffa_model.specs.declared.rights.Rights.{Rights}
use Rattle.ffa_model.specs.Lists.{listed}
use Rattle.ffa_model.specs.Rights.{may_fetch, may_store}
use Rattle.ffa_model.specs.State.{State, Page, Transaction, owner_of, page_at, transaction_of, own_right_of}
use Rattle.ffa_model.specs.Access.{is_naming, names, transaction_at, ownership_of}
use Rattle.ffa_model.specs.Transactions.{are_writable, ceiling, ceiling_in, pages_in}
use Rattle.ffa_laws.specs.Steady.{IsSteady}
use Rattle.ffa_laws.specs.View.{view, involves, is_near, kept, seen_by}
use Rattle.ffa_model.proofs.KeptDonate.{same-tests}
use Rattle.ffa_model.proofs.Accesses.{length-map_at}
use Rattle.ffa_laws.proofs.Maps.{first_one}
use Rattle.ffa_laws.proofs.Views.{view-page, or_true}
use Rattle.ffa_model.proofs.Kept.{ceiling-held}

-- an open transaction is the one at its pages
pub at-named : (s : State) → IsSteady s → (h : ℕ) (t : Transaction) → transaction_of s h ≡ Some t → (p : ℕ) → names s t.ranges p ≡ true → transaction_at s p ≡ Some t
at-named s steady h t there p named =
    let here : is_naming s p (transaction_of s h) ≡ true = ap (is_naming s p) there ∙ named in
    ap (option_and_then (transaction_of s)) (first_one (is_naming s p) s.transactions refl h here (λ k is. steady.one p k h is here)) ∙ there

module _ (e : ℕ) (s : State) (steady : IsSteady s) (h : ℕ) (t : Transaction) (there : transaction_of s h ≡ Some t) (known : involves e (Some t) ≡ true) where
  pub near-named : (p : ℕ) → names s t.ranges p ≡ true → is_near e s p ≡ true
  near-named p named = ap (λ o. owner_of s p == e || involves e o) (at-named s steady h t there p named) ∙ ap (λ b. owner_of s p == e || b) known ∙ or_true (owner_of s p == e)

  right-seen : (p : ℕ) → names s t.ranges p ≡ true → own_right_of (view e s) p ≡ own_right_of s p
  right-seen p named = ap (option_map (λ (page : Page). page.own_right)) (view-page e s p ∙ ap (λ b. kept b (page_at s p)) (near-named p named))

  -- a test of the own right of each of its pages
  pub rights-seen : (test : Option Rights → Bool)
      → list_all (λ p. test (own_right_of (view e s) p)) (pages_in (ownership_of (view e s)) t.ranges) ≡ list_all (λ p. test (own_right_of s p)) (pages_in (ownership_of s) t.ranges)
  rights-seen test =
      ap (λ n. list_all (λ p. test (own_right_of (view e s) p)) (filter (names s t.ranges) (listed n (λ p. p)))) (length-map_at (λ q page. kept (is_near e s q) page) s.pages)
      ∙ same-tests (λ p. test (own_right_of (view e s) p)) (λ p. test (own_right_of s p)) (names s t.ranges) (length s.pages) (λ p. p) (λ p lt named. ap test (right-seen p named))

  pub writable-seen : are_writable (ownership_of (view e s)) t.ranges ≡ are_writable (ownership_of s) t.ranges
  writable-seen = rights-seen may_store

  pub ceiling-seen : (f : ℕ) → ceiling (ownership_of (view e s)) (seen_by e t) f ≡ ceiling (ownership_of s) t f
  ceiling-seen f =
      (λ i. ceiling_in t.kind (rights-seen may_store i) (rights-seen may_fetch i) (seen_by e t) f) ∙ ceiling-held (ownership_of s) t (seen_by e t).held f
