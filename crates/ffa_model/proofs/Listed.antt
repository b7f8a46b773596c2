-- SPDX-License-Identifier: MIT OR Apache-2.0
-- Lists that a function of the index gives.
use Rattle.std.proofs.Common.{◌≡◌, ◌∙◌, ℕ, suc, zero, ◌+◌, ◌<◌, ◌≤◌, [], ◌∷◌, ◌++◌, length, get_or, set, refl, ap, arith}
use Rattle.ffa_model.specs.Lists.{listed}

pub length-listed : {X : Type 0} (n : ℕ) (f : ℕ → X) → length (listed n f) ≡ n
length-listed zero f = refl
length-listed (suc n) f = let h = length-listed n (λ i. f (suc i)) in omega (arith, h)

pub get_or-listed : {X : Type 0} (n : ℕ) (f : ℕ → X) (i : ℕ) (d : X) → i < n → get_or (listed n f) i d ≡ f i
get_or-listed zero f i d lt = absurd (omega arith)
get_or-listed (suc n) f zero d lt = refl
get_or-listed (suc n) f (suc i) d lt = get_or-listed n (λ i. f (suc i)) i d (omega arith)

pub get_or-listed_past : {X : Type 0} (n : ℕ) (f : ℕ → X) (i : ℕ) (d : X) → n ≤ i → get_or (listed n f) i d ≡ d
get_or-listed_past zero f i d past = refl
get_or-listed_past (suc n) f zero d past = absurd (omega arith)
get_or-listed_past (suc n) f (suc i) d past = get_or-listed_past n (λ i. f (suc i)) i d (omega arith)

pub listed-same : {X : Type 0} (n : ℕ) (f g : ℕ → X) → ((i : ℕ) → i < n → f i ≡ g i) → listed n f ≡ listed n g
listed-same zero f g same = refl
listed-same (suc n) f g same = λ i. same 0 (omega arith) i ∷ listed-same n (λ i. f (suc i)) (λ i. g (suc i)) (λ i lt. same (suc i) (omega arith)) i

-- a function that changes at one index
pub listed-but : {X : Type 0} (n : ℕ) (f g : ℕ → X) (p : ℕ) → ((q : ℕ) → q < n → (q ≡ p → ⊥) → g q ≡ f q) → listed n g ≡ set (listed n f) p (g p)
listed-but zero f g p same = refl
listed-but (suc n) f g zero same = ap (λ ys. g 0 ∷ ys) (listed-same n (λ i. g (suc i)) (λ i. f (suc i)) (λ i lt. same (suc i) (omega arith) (omega arith)))
listed-but (suc n) f g (suc p) same = λ i. same 0 (omega arith) (omega arith) i ∷ listed-but n (λ i. f (suc i)) (λ i. g (suc i)) p (λ q lt ne. same (suc q) (omega arith) (omega arith)) i

-- one more
pub listed-more : {X : Type 0} (n : ℕ) (f : ℕ → X) → listed (n + 1) f ≡ listed n f ++ f n ∷ []
listed-more zero f = refl
listed-more (suc n) f =
    let next : suc n + 1 ≡ suc (n + 1) = omega arith in
    ap (λ m. listed m f) next ∙ ap (λ xs. f 0 ∷ xs) (listed-more n (λ i. f (suc i)))
