-- SPDX-License-Identifier: MIT OR Apache-2.0
-- What passes a test of what a function gives at the first indexes.
use Rattle.std.proofs.Common.{◌≡◌, ℕ, zero, suc, Bool, true, false, List, [], ◌∷◌, refl, ap}
use Rattle.std.specs.Prelude.{filter, ◌++◌, if◌then◌else◌}
use Rattle.ffa_model.specs.Lists.{listed}

-- of the elements at one place more those that pass a test
one-more : {X : Type 0} (first : Bool) (x : X) (rest more : List X) (tail : List X) → more ≡ rest ++ tail
    → (if first then x ∷ more else more) ≡ (if first then x ∷ rest else rest) ++ tail
one-more true x rest more tail is = ap (λ xs. x ∷ xs) is
one-more false x rest more tail is = is

pub filter-more : {X : Type 0} (test : X → Bool) (n : ℕ) (f : ℕ → X) → filter test (listed (suc n) f) ≡ filter test (listed n f) ++ (if test (f n) then f n ∷ [] else [])
filter-more test zero f = refl
filter-more test (suc n) f =
    one-more (test (f 0)) (f 0) (filter test (listed n (λ i. f (suc i)))) (filter test (listed (suc n) (λ i. f (suc i)))) (if test (f (suc n)) then f (suc n) ∷ [] else [])
    (filter-more test n (λ i. f (suc i)))
