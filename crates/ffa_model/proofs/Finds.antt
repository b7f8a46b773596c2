-- SPDX-License-Identifier: MIT OR Apache-2.0
-- The first element that passes a test.
use Rattle.std.proofs.Common.{◌≡◌, ◌∙◌, ℕ, zero, suc, ◌<◌, Bool, true, false, cond, List, [], ◌∷◌, ◌+◌, ◌≤◌, filter, length, map, Option, Some, None, inl, inr, refl, ap, arith, ◌&&◌, nat_lt, not, find, position, if◌then◌else◌}
use Rattle.std.specs.List.{All, position_or_len}
use Rattle.std.proofs.lemmas.Bool.{cases_Bool, ltb-false}
use Rattle.std.specs.Option.{option_map, unwrap_or}
use Rattle.std.proofs.lemmas.List.Elements.{All-head, All-tail}
use Rattle.ffa_model.specs.Lists.{listed}

-- of those that pass another test
pub find-filtered : {X : Type 0} (test q : X → Bool) (xs : List X) → find test (filter q xs) ≡ find (λ x. q x && test x) xs
find-filtered test q [] = refl
find-filtered {X = X} test q (x ∷ xs) =
    elim (q x) as (λ b. find test (if b then x ∷ filter q xs else filter q xs) ≡ cond (b && test x) (Some x) (find (λ y. q y && test y) xs)) [
      | true ↦ ap (λ (o : Option X). cond (test x) (Some x) o) (find-filtered test q xs)
      | false ↦ find-filtered test q xs
    ]

module _ {X : Type 0} (test : X → Bool) where
  -- by its index, where none before it passes
  pub find-listed : (n i : ℕ) (f : ℕ → X) → i < n → ((k : ℕ) → k < i → test (f k) ≡ false) → test (f i) ≡ true → find test (listed n f) ≡ Some (f i)
  find-listed zero i f lt before is = absurd (omega arith)
  find-listed (suc n) zero f lt before is = ap (λ b. cond b (Some (f 0)) (find test (listed n (λ k. f (suc k))))) is
  find-listed (suc n) (suc i) f lt before is =
      ap (λ b. cond b (Some (f 0)) (find test (listed n (λ k. f (suc k))))) (before 0 (omega arith))
      ∙ find-listed n i (λ k. f (suc k)) (omega arith) (λ k lt_k. before (suc k) (omega arith)) is

  pub find-none : (n : ℕ) (f : ℕ → X) → ((k : ℕ) → k < n → test (f k) ≡ false) → find test (listed n f) ≡ None
  find-none zero f none = refl
  find-none (suc n) f none =
      ap (λ b. cond b (Some (f 0)) (find test (listed n (λ k. f (suc k))))) (none 0 (omega arith))
      ∙ find-none n (λ k. f (suc k)) (λ k lt. none (suc k) (omega arith))

-- tests that agree find the same
pub find-same : {X : Type 0} (test also : X → Bool) (n : ℕ) (f : ℕ → X) → ((k : ℕ) → k < n → test (f k) ≡ also (f k)) → find test (listed n f) ≡ find also (listed n f)
find-same test also zero f same = refl
find-same test also (suc n) f same =
    λ i. cond (same 0 (omega arith) i) (Some (f 0)) (find-same test also n (λ k. f (suc k)) (λ k lt. same (suc k) (omega arith)) i)

pub find-alike : {X : Type 0} (test also : X → Bool) (xs : List X) → All (λ x. test x ≡ also x) xs → find test xs ≡ find also xs
find-alike test also [] same = refl
find-alike {X = X} test also (x ∷ xs) same =
    let P : X → Type 0 = λ y. test y ≡ also y in
    λ i. cond (All-head P x xs same i) (Some x) (find-alike test also xs (All-tail P x xs same) i)

-- of what is told of each
pub find-map : {X Y : Type 0} (f : X → Y) (test : Y → Bool) (xs : List X) → option_map f (find (λ x. test (f x)) xs) ≡ find test (map f xs)
find-map f test [] = refl
find-map {Y = Y} f test (x ∷ xs) =
    elim (test (f x)) as (λ b. option_map f (cond b (Some x) (find (λ y. test (f y)) xs)) ≡ cond b (Some (f x)) (find test (map f xs))) [
      | true ↦ refl
      | false ↦ find-map f test xs
    ]

pub option-twice : {X Y Z : Type 0} (f : X → Y) (g : Y → Z) (o : Option X) → option_map (λ x. g (f x)) o ≡ option_map g (option_map f o)
option-twice f g None = refl
option-twice f g (Some x) = refl

-- the first place that passes is in the list, or behind it
pub place-inside : {X : Type 0} (test : X → Bool) (xs : List X) → position_or_len test xs ≤ length xs
place-inside test [] = omega arith
place-inside test (x ∷ xs) =
    elim (test x) as (λ b. cond (not b) (1 + position_or_len test xs) 0 ≤ length (x ∷ xs)) [
      | true ↦ omega arith
      | false ↦ omega (arith, place-inside test xs)
    ]

pub place-or-behind : {X : Type 0} (test : X → Bool) (xs : List X) → unwrap_or (position test xs) (length xs) ≡ position_or_len test xs
place-or-behind test xs =
    elim (cases_Bool (nat_lt (position_or_len test xs) (length xs))) [
      | inl inside ↦ rw inside refl
      | inr behind ↦ rw behind (omega (arith, place-inside test xs, ltb-false (position_or_len test xs) (length xs) behind))
    ]

-- and it is that of what is told of each
pub place-map : {X Y : Type 0} (f : X → Y) (test : Y → Bool) (xs : List X) → position_or_len (λ x. test (f x)) xs ≡ position_or_len test (map f xs)
place-map f test [] = refl
place-map f test (x ∷ xs) = ap (λ n. cond (not (test (f x))) (1 + n) 0) (place-map f test xs)
