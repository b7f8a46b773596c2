-- SPDX-License-Identifier: MIT OR Apache-2.0
-- Tests over lists that are given index by index.
use Rattle.std.proofs.Common.{◌≡◌, ℕ, zero, suc, ◌+◌, ◌<◌, Bool, true, false, not, cond, ◌&&◌, ◌||◌, [], ◌∷◌, ◌++◌, ◌∙◌, Some, None, refl, sym, ap, subst, arith, inl, inr}
use Rattle.std.specs.Prelude.{nat_lt, position, unwrap_or}
use Rattle.std.specs.List.{list_any, list_all, position_or_len}
use Rattle.std.proofs.lemmas.Bool.{cases_lt, cases_Bool, and_parts, and_from, lt-ltb, or_left, or_parts, or_from, or_right}
use Rattle.std.proofs.lemmas.Bool.Decides.{nat_tests}
use Rattle.ffa_model.proofs.Listed.{length-listed}
use Rattle.ffa_model.specs.Lists.{listed}
use Rattle.ffa_model.specs.SendDescriptor.{holds_at_each}

pub listed-suc : {X : Type 0} (f : ℕ → X) (n : ℕ) → listed (suc n) f ≡ listed n f ++ f n ∷ []
listed-suc f zero = refl
listed-suc f (suc n) = ap (λ l. f 0 ∷ l) (listed-suc (λ i. f (suc i)) n)

pub all_told : {X : Type 0} (p : X → Bool) (f : ℕ → X) (n : ℕ) → list_all p (listed n f) ≡ true → (i : ℕ) → i < n → p (f i) ≡ true
all_told p f zero h i lt = absurd (omega arith)
all_told p f (suc n) h zero lt = (and_parts _ _ h).0
all_told p f (suc n) h (suc i) lt = all_told p (λ k. f (suc k)) n ((and_parts _ _ h).1) i (omega arith)

pub all_again : {X : Type 0} (p : X → Bool) (f : ℕ → X) (n : ℕ) → ((i : ℕ) → i < n → p (f i) ≡ true) → list_all p (listed n f) ≡ true
all_again p f zero h = refl
all_again p f (suc n) h = and_from _ _ (h 0 (omega arith)) (all_again p (λ k. f (suc k)) n (λ i lt. h (suc i) (omega arith)))

pub none_told : {X : Type 0} (p : X → Bool) (f : ℕ → X) (n : ℕ) → list_any p (listed n f) ≡ false → (i : ℕ) → i < n → p (f i) ≡ false
none_told p f zero h i lt = absurd (omega arith)
none_told p f (suc n) h zero lt = (or_parts _ _ h).0
none_told p f (suc n) h (suc i) lt = none_told p (λ k. f (suc k)) n ((or_parts _ _ h).1) i (omega arith)

pub none_again : {X : Type 0} (p : X → Bool) (f : ℕ → X) (n : ℕ) → ((i : ℕ) → i < n → p (f i) ≡ false) → list_any p (listed n f) ≡ false
none_again p f zero h = refl
none_again p f (suc n) h = or_from _ _ (h 0 (omega arith)) (none_again p (λ k. f (suc k)) n (λ i lt. h (suc i) (omega arith)))

pub holds_told : (test : ℕ → Bool) (n : ℕ) → holds_at_each test n ≡ true → (i : ℕ) → i < n → test i ≡ true
holds_told test n h i lt = all_told (λ t. t) test n h i lt

pub holds_again : (test : ℕ → Bool) (n : ℕ) → ((i : ℕ) → i < n → test i ≡ true) → holds_at_each test n ≡ true
holds_again test n h = all_again (λ t. t) test n h

pub holds_more : (test : ℕ → Bool) (n : ℕ) → holds_at_each test n ≡ true → test n ≡ true → holds_at_each test (n + 1) ≡ true
holds_more test n before here =
    holds_again test (n + 1) (λ i lt. elim (cases_lt i n) [
      | inl below ↦ holds_told test n before i below
      | inr le ↦ let same : n ≡ i = omega arith in subst (λ (k : ℕ). test k ≡ true) same here
    ])

other : (x y : Bool) → x ≡ false → (x || y) ≡ true → y ≡ true
other true y e h = absurd cc
other false y e h = h

among : (x y : Bool) → x ≡ true → (x && y) ≡ false → y ≡ false
among true y e h = h
among false y e h = absurd cc

-- one of them passes, or doesn't
pub some_told : {X : Type 0} (p : X → Bool) (f : ℕ → X) (n : ℕ) → list_any p (listed n f) ≡ true → (j : ℕ) × (j < n) × (p (f j) ≡ true)
some_told p f zero h = absurd cc
some_told p f (suc n) h =
    elim (cases_Bool (p (f 0))) [
      | inl t ↦ (0, omega arith, t)
      | inr e ↦
          let (j, before, holds) = some_told p (λ k. f (suc k)) n (other _ _ e h) in
          (suc j, omega arith, holds)
    ]

pub some_not : {X : Type 0} (p : X → Bool) (f : ℕ → X) (n : ℕ) → list_all p (listed n f) ≡ false → (j : ℕ) × (j < n) × (p (f j) ≡ false)
some_not p f zero h = absurd cc
some_not p f (suc n) h =
    elim (cases_Bool (p (f 0))) [
      | inl t ↦
          let (j, before, fails) = some_not p (λ k. f (suc k)) n (among _ _ t h) in
          (suc j, omega arith, fails)
      | inr e ↦ (0, omega arith, e)
    ]

pub some_again : {X : Type 0} (p : X → Bool) (f : ℕ → X) (n i : ℕ) → i < n → p (f i) ≡ true → list_any p (listed n f) ≡ true
some_again p f zero i lt e = absurd (omega arith)
some_again p f (suc n) zero lt e = or_left _ _ e
some_again p f (suc n) (suc i) lt e = or_right _ _ (some_again p (λ k. f (suc k)) n i (omega arith) e)

and_false : (t : Bool) → (t && false) ≡ false
and_false true = refl
and_false false = refl

pub not_all : {X : Type 0} (p : X → Bool) (f : ℕ → X) (n i : ℕ) → i < n → p (f i) ≡ false → list_all p (listed n f) ≡ false
not_all p f zero i lt e = absurd (omega arith)
not_all p f (suc n) zero lt e = ap (λ t. t && list_all p (listed n (λ k. f (suc k)))) e
not_all p f (suc n) (suc i) lt e = ap (λ t. p (f 0) && t) (not_all p (λ k. f (suc k)) n i (omega arith) e) ∙ and_false (p (f 0))

-- the position of the first that passes; and where none does there is none
first_place : {X : Type 0} (p : X → Bool) (f : ℕ → X) (n i : ℕ) → i < n → ((k : ℕ) → k < i → p (f k) ≡ false) → p (f i) ≡ true → position_or_len p (listed n f) ≡ i
first_place p f zero i lt before here = absurd (omega arith)
first_place p f (suc n) zero lt before here = ap (λ t. cond (not t) (1 + position_or_len p (listed n (λ k. f (suc k)))) 0) here
first_place p f (suc n) (suc i) lt before here =
    ap (λ t. cond (not t) (1 + position_or_len p (listed n (λ k. f (suc k)))) 0) (before 0 (omega arith))
    ∙ (let rest = first_place p (λ k. f (suc k)) n i (omega arith) (λ k less. before (suc k) (omega arith)) here in omega arith)

no_place : {X : Type 0} (p : X → Bool) (f : ℕ → X) (n : ℕ) → ((k : ℕ) → k < n → p (f k) ≡ false) → position_or_len p (listed n f) ≡ n
no_place p f zero none = refl
no_place p f (suc n) none =
    ap (λ t. cond (not t) (1 + position_or_len p (listed n (λ k. f (suc k)))) 0) (none 0 (omega arith))
    ∙ (let rest = no_place p (λ k. f (suc k)) n (λ k less. none (suc k) (omega arith)) in omega arith)

place_if : (i n : ℕ) → i < n → unwrap_or (cond (nat_lt i n) (Some i) None) 0 ≡ i
place_if i n lt = ap (λ t. unwrap_or (cond t (Some i) None) 0) (lt-ltb i n lt)

le-ltb_false : (n : ℕ) → nat_lt n n ≡ false
le-ltb_false n = grind (arith, nat_tests)

no_place_if : (n : ℕ) → unwrap_or (cond (nat_lt n n) (Some n) None) 0 ≡ 0
no_place_if n = ap (λ t. unwrap_or (cond t (Some n) None) 0) (le-ltb_false n)

pub position_here : {X : Type 0} (p : X → Bool) (f : ℕ → X) (n i : ℕ) → i < n → ((k : ℕ) → k < i → p (f k) ≡ false) → p (f i) ≡ true
    → i ≡ unwrap_or (position p (listed n f)) 0
position_here p f n i lt before here = sym (rw (first_place p f n i lt before here, length-listed n f) (place_if i n lt))

pub position_none : {X : Type 0} (p : X → Bool) (f : ℕ → X) (n : ℕ) → ((k : ℕ) → k < n → p (f k) ≡ false) → 0 ≡ unwrap_or (position p (listed n f)) 0
position_none p f n none = sym (rw (no_place p f n none, length-listed n f) (no_place_if n))
