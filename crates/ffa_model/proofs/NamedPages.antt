-- SPDX-License-Identifier: MIT OR Apache-2.0
-- What a test of all pages that ranges name says of each page.
use Rattle.std.proofs.Common.{◌≡◌, ℕ, zero, suc, ◌<◌, Bool, true, false, cond, refl, subst, arith, ◌∷◌, filter}
use Rattle.std.specs.List.{list_all}
use Rattle.std.proofs.lemmas.Bool.{and_from, and_parts}
use Rattle.ffa_model.specs.Lists.{listed}

module _ (test keep : ℕ → Bool) where
  pub listed-each : (n : ℕ) (f : ℕ → ℕ) → list_all test (filter keep (listed n f)) ≡ true → (i : ℕ) → i < n → keep (f i) ≡ true → test (f i) ≡ true
  listed-each zero f all i lt kept = absurd (omega arith)
  listed-each (suc n) f all zero lt kept =
      let first : list_all test (cond true (f 0 ∷ filter keep (listed n (λ i. f (suc i)))) (filter keep (listed n (λ i. f (suc i))))) ≡ true =
      subst (λ b. list_all test (cond b (f 0 ∷ filter keep (listed n (λ i. f (suc i)))) (filter keep (listed n (λ i. f (suc i))))) ≡ true) kept all in
      (and_parts (test (f 0)) _ first).0
  listed-each (suc n) f all (suc i) lt kept = listed-each n (λ j. f (suc j)) (of (keep (f 0)) all) i (omega arith) kept
    where
      of : (b : Bool) → list_all test (cond b (f 0 ∷ filter keep (listed n (λ i. f (suc i)))) (filter keep (listed n (λ i. f (suc i))))) ≡ true
          → list_all test (filter keep (listed n (λ i. f (suc i)))) ≡ true
      of true all = (and_parts (test (f 0)) _ all).1
      of false all = all

  pub each-listed : (n : ℕ) (f : ℕ → ℕ) → ((i : ℕ) → i < n → keep (f i) ≡ true → test (f i) ≡ true) → list_all test (filter keep (listed n f)) ≡ true
  each-listed zero f each = refl
  each-listed (suc n) f each = of (keep (f 0)) refl (each-listed n (λ i. f (suc i)) (λ i lt kept. each (suc i) (omega arith) kept))
    where
      of : (b : Bool) → keep (f 0) ≡ b → list_all test (filter keep (listed n (λ i. f (suc i)))) ≡ true
          → list_all test (cond b (f 0 ∷ filter keep (listed n (λ i. f (suc i)))) (filter keep (listed n (λ i. f (suc i))))) ≡ true
      of true kept rest = and_from (test (f 0)) _ (each 0 (omega arith) kept) rest
      of false left rest = rest
