-- SPDX-License-Identifier: MIT OR Apache-2.0
-- What a list holds where no element passes a test, and before the first that does.
use Rattle.std.proofs.Common.{◌≡◌, ℕ, zero, suc, ◌<◌, ◌≤◌, Bool, true, false, not, List, [], ◌∷◌, length, take, get_or, position, None, arith, refl}
use Rattle.std.specs.List.{position_or_len, list_all, All}
use Rattle.std.proofs.lemmas.List.Sums.{prefix_len_passes}
use Rattle.std.proofs.lemmas.Bool.{not-true}

-- where a list has no place that passes, no element passes
pub none_pass : {X : Type 0} (p : X → Bool) (xs : List X) → position p xs ≡ None → All (λ x. p x ≡ false) xs
none_pass p xs h k d below =
    let far : length xs ≤ position_or_len p xs = grind arith in
    not-true (p (get_or xs k d)) (prefix_len_passes (λ x. not (p x)) xs k d (omega arith))

-- the elements before a place, none of which passes
pub none_before : {X : Type 0} (p : X → Bool) (xs : List X) (n : ℕ) → ((k : ℕ) (d : X) → k < n → p (get_or xs k d) ≡ false)
    → list_all (λ x. not (p x)) (take n xs) ≡ true
none_before p xs zero h = refl
none_before p [] (suc n) h = refl
none_before p (x ∷ xs) (suc n) h = rw (h 0 x (omega arith)) (none_before p xs n (λ k d below. h (suc k) d (omega (arith, below))))
