-- SPDX-License-Identifier: MIT OR Apache-2.0
-- Numbers in a row.
use Rattle.std.proofs.Common.{◌≡◌, ◌∙◌, ℕ, zero, suc, ◌+◌, ◌-◌, ◌<◌, ◌≤◌, Bool, true, false, List, ◌++◌, refl, sym, subst, arith, inl, inr, nat_le}
use Rattle.std.specs.List.{flat_map, list_all}
use Rattle.std.proofs.lemmas.Bool.{and_from, and_parts, cases_Bool, leb-true, le-leb, ltb-true, lt-ltb, true≢false}
use Rattle.ffa_model.specs.Lists.{is_in_run, listed, run}

-- a number in a row is between its ends
pub in-run : (first n p : ℕ) → is_in_run first n p ≡ true → (first ≤ p) × (p < first + n)
in-run first n p is = let (low, high) = and_parts (nat_le first p) _ is in (leb-true first p low, ltb-true p (first + n) high)

pub to-run : (first n p : ℕ) → first ≤ p → p < first + n → is_in_run first n p ≡ true
to-run first n p low high = and_from (nat_le first p) _ (le-leb first p low) (lt-ltb p (first + n) high)

-- what is in the rest of a row is in the row
pub run-wider : (first n p : ℕ) → is_in_run (first + 1) n p ≡ true → is_in_run first (suc n) p ≡ true
run-wider first n p is = let (low, high) = in-run (first + 1) n p is in to-run first (suc n) p (omega (arith, low)) (omega (arith, high))

module _ (test : ℕ → Bool) where
  all-listed : (n : ℕ) (f : ℕ → ℕ) → ((i : ℕ) → i < n → test (f i) ≡ true) → list_all test (listed n f) ≡ true
  all-listed zero f each = refl
  all-listed (suc n) f each = and_from (test (f 0)) _ (each 0 (omega arith)) (all-listed n (λ i. f (suc i)) (λ i lt. each (suc i) (omega arith)))

  listed-all : (n : ℕ) (f : ℕ → ℕ) → list_all test (listed n f) ≡ true → (i : ℕ) → i < n → test (f i) ≡ true
  listed-all zero f all i lt = absurd (omega arith)
  listed-all (suc n) f all zero lt = (and_parts (test (f 0)) _ all).0
  listed-all (suc n) f all (suc i) lt = listed-all n (λ j. f (suc j)) (and_parts (test (f 0)) _ all).1 i (omega arith)

  -- a test that holds of each, by its place
  pub run-all : (first n : ℕ) → ((i : ℕ) → i < n → test (first + i) ≡ true) → list_all test (run first n) ≡ true
  run-all first n each = all-listed n (λ i. first + i) each

  pub run-at : (first n : ℕ) → list_all test (run first n) ≡ true → (i : ℕ) → i < n → test (first + i) ≡ true
  run-at first n all i lt = listed-all n (λ i. first + i) all i lt

  pub run-each : (first n : ℕ) → list_all test (run first n) ≡ true → (p : ℕ) → is_in_run first n p ≡ true → test p ≡ true
  run-each first n all p is =
      let (low, high) = in-run first n p is in
      let back : first + (p - first) ≡ p = omega (arith, low) in
      subst (λ q. test q ≡ true) back (run-at first n all (p - first) (omega (arith, low, high)))

  pub run-fails : (first n i : ℕ) → i < n → test (first + i) ≡ false → list_all test (run first n) ≡ false
  run-fails first n i lt fails = elim (cases_Bool (list_all test (run first n))) [
    | inl all ↦ absurd (true≢false (sym (run-at first n all i lt) ∙ fails))
    | inr none ↦ none
  ]

-- functions that agree on a row give the same bytes of it
flat-listed-same : (f g : ℕ → List ℕ) (n : ℕ) (h : ℕ → ℕ) → ((i : ℕ) → i < n → f (h i) ≡ g (h i)) → flat_map f (listed n h) ≡ flat_map g (listed n h)
flat-listed-same f g zero h same = refl
flat-listed-same f g (suc n) h same = λ i. same 0 (omega arith) i ++ flat-listed-same f g n (λ j. h (suc j)) (λ j lt. same (suc j) (omega arith)) i

pub flat-run-same : (f g : ℕ → List ℕ) (first n : ℕ) → ((p : ℕ) → is_in_run first n p ≡ true → f p ≡ g p) → flat_map f (run first n) ≡ flat_map g (run first n)
flat-run-same f g first n same =
    flat-listed-same f g n (λ i. first + i) (λ i lt. same (first + i) (to-run first n (first + i) (omega arith) (omega (arith, lt))))
