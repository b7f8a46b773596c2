-- SPDX-License-Identifier: MIT OR Apache-2.0
-- Which open transaction passes a test, and what a change of one transaction changes in that.
use Rattle.std.proofs.Common.{◌≡◌, ◌∙◌, ℕ, Bool, true, false, cond, List, [], ◌∷◌, Option, Some, None, refl, sym, ap, subst, ◌||◌, find, is_some}
use Rattle.std.specs.List.{list_any}
use Rattle.std.specs.Option.{option_and_then}
use Rattle.std.specs.Ordering.{nat_cmp, eq_by_cmp}
use Rattle.std.specs.Cmp.{nat_cmp_total, unsigned_tied}
use Rattle.std.specs.FinMap as finite
use Rattle.std.proofs.lemmas.Bool.{eq-eqb, eqb-true, false≢true, ne_eqb, true≢false}
use Rattle.std.proofs.lemmas.Option.{none-some, same_Some}
use Rattle.ffa_model.specs.State.{Transaction}
use Rattle.ffa_model.specs.Access.{first_handle}

abbrev pub Transactions : Type 0
Transactions = finite.FinMap nat_cmp Transaction

-- at most one handle's transaction passes the test
abbrev pub IsAlone : (Option Transaction → Bool) → Transactions → Type 0
IsAlone test m = (h k : ℕ) → test (finite.get m h) ≡ true → test (finite.get m k) ≡ true → h ≡ k

-- the transaction of the handle that is found
abbrev pub found_in : (Option Transaction → Bool) → Transactions → Option Transaction
found_in test m = option_and_then (finite.get m) (first_handle test m)

some-none : {A : Type 0} (x : A) → Some x ≡ None → ⊥
some-none x e = none-some x (sym e)

pub find-passes : (test : ℕ → Bool) (xs : List ℕ) (x : ℕ) → find test xs ≡ Some x → test x ≡ true
find-passes test [] x is = absurd (none-some x is)
find-passes test (y ∷ ys) x is =
    elim (test y) as (λ b. test y ≡ b → cond b (Some y) (find test ys) ≡ Some x → test x ≡ true) [
      | true ↦ λ at found. subst (λ z. test z ≡ true) (same_Some y x found) at
      | false ↦ λ at found. find-passes test ys x found
    ] refl is

pub find-misses : (test : ℕ → Bool) (xs : List ℕ) (x : ℕ) → find test xs ≡ None → list_any (eq_by_cmp nat_cmp x) xs ≡ true → test x ≡ false
find-misses test [] x is among = absurd (false≢true among)
find-misses test (y ∷ ys) x is among =
    elim (test y) as (λ b. test y ≡ b → cond b (Some y) (find test ys) ≡ None → test x ≡ false) [
      | true ↦ λ at found. absurd (some-none y found)
      | false ↦ λ at found.
          elim (eq_by_cmp nat_cmp x y) as (λ b. eq_by_cmp nat_cmp x y ≡ b → (b || list_any (eq_by_cmp nat_cmp x) ys) ≡ true → test x ≡ false) [
            | true ↦ λ tied _. subst (λ z. test z ≡ false) (sym (eqb-true x y (sym (unsigned_tied x y) ∙ tied))) at
            | false ↦ λ apart rest. find-misses test ys x found rest
          ] refl among
    ] refl is

pub find_none : (test : ℕ → Bool) (xs : List ℕ) → ((x : ℕ) → test x ≡ false) → find test xs ≡ None
find_none test [] never = refl
find_none test (x ∷ xs) never = rw (never x) (find_none test xs never)

-- one transaction is put in under a handle, or taken out
module _ (m : Transactions) (h : ℕ) where
  pub get-put : (t : Transaction) → finite.get (finite.insert m h t) h ≡ Some t
  get-put t = finite.get-insert nat_cmp_total m h t h ∙ ap (λ b. cond b (Some t) (finite.get m h)) (unsigned_tied h h ∙ eq-eqb h h refl)

  pub get-beside : (t : Transaction) (k : ℕ) → (k ≡ h → ⊥) → finite.get (finite.insert m h t) k ≡ finite.get m k
  get-beside t k other = finite.get-insert nat_cmp_total m h t k ∙ ap (λ b. cond b (Some t) (finite.get m k)) (unsigned_tied k h ∙ ne_eqb k h other)

  pub get-taken : finite.get (finite.remove m h) h ≡ None
  get-taken = finite.get-remove nat_cmp_total m h h ∙ ap (λ b. cond b None (finite.get m h)) (unsigned_tied h h ∙ eq-eqb h h refl)

  pub get-left : (k : ℕ) → (k ≡ h → ⊥) → finite.get (finite.remove m h) k ≡ finite.get m k
  get-left k other = finite.get-remove nat_cmp_total m h k ∙ ap (λ b. cond b None (finite.get m k)) (unsigned_tied k h ∙ ne_eqb k h other)

module _ (test : Option Transaction → Bool) (nothing : test None ≡ false) where
  -- what is found passes
  pub found-passes : (m : Transactions) (h : ℕ) → first_handle test m ≡ Some h → test (finite.get m h) ≡ true
  found-passes m h found = find-passes (λ k. test (finite.get m k)) (finite.keys m) h found

  -- where nothing is found nothing passes
  pub none-passes : (m : Transactions) (h : ℕ) → first_handle test m ≡ None → test (finite.get m h) ≡ false
  none-passes m h none = of (finite.get m h) refl
    where
      of : (o : Option Transaction) → finite.get m h ≡ o → test o ≡ false
      of None is = nothing
      of (Some t) is =
          subst (λ o. test o ≡ false) is
          (find-misses (λ k. test (finite.get m k)) (finite.keys m) h none (sym (finite.contains_key-keys m h) ∙ ap is_some is))

  pub unpassed-none : (m : Transactions) → ((h : ℕ) → test (finite.get m h) ≡ false) → first_handle test m ≡ None
  unpassed-none m never = find_none (λ k. test (finite.get m k)) (finite.keys m) never

  -- the one that passes is found
  pub alone-found : (m : Transactions) (h : ℕ) → IsAlone test m → test (finite.get m h) ≡ true → first_handle test m ≡ Some h
  alone-found m h alone passes = of (first_handle test m) refl
    where
      of : (o : Option ℕ) → first_handle test m ≡ o → o ≡ Some h
      of None is = absurd (true≢false (sym passes ∙ none-passes m h is))
      of (Some k) is = ap Some (alone k h (found-passes m k is) passes)

  pub alone-in : (m : Transactions) (h : ℕ) → IsAlone test m → test (finite.get m h) ≡ true → found_in test m ≡ finite.get m h
  alone-in m h alone passes = ap (option_and_then (finite.get m)) (alone-found m h alone passes)

  pub none-in : (m : Transactions) → ((h : ℕ) → test (finite.get m h) ≡ false) → found_in test m ≡ None
  none-in m never = ap (option_and_then (finite.get m)) (unpassed-none m never)

  -- two maps in which the same handles pass, with the same transactions
  pub same-in : (m n : Transactions) → IsAlone test n
      → ((h : ℕ) → test (finite.get m h) ≡ test (finite.get n h)) → ((h : ℕ) → test (finite.get m h) ≡ true → finite.get m h ≡ finite.get n h)
      → found_in test m ≡ found_in test n
  same-in m n alone tests same = of (first_handle test m) refl
    where
      of : (o : Option ℕ) → first_handle test m ≡ o → option_and_then (finite.get m) o ≡ found_in test n
      of None is = sym (none-in n (λ h. sym (tests h) ∙ none-passes m h is))
      of (Some h) is =
          let passes : test (finite.get m h) ≡ true = found-passes m h is in
          same h passes ∙ sym (alone-in n h alone (sym (tests h) ∙ passes))
