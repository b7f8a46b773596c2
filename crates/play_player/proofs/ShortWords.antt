-- SPDX-License-Identifier: MIT OR Apache-2.0
-- Zeros that are cut off digits and registers.
use Rattle.std.proofs.Common.{◌≡◌, ℕ, ◌≤◌, true, false, List, [], ◌∷◌, ◌++◌, drop, length, arith, refl, ◌==◌, slice_index}
use Rattle.std.specs.List.{flat_map, list_all}
use Rattle.play_player.specs.Short.{cut_zeros, filled}

pub cut_few : (word : List ℕ) → length word ≤ 1 → cut_zeros word ≡ word
cut_few (c ∷ d ∷ word) few = absurd (omega (arith, few))
cut_few _ few = refl

pub filled_step : (f : ℕ → List ℕ) (x : List ℕ) → list_all (λ v. v == 0) x ≡ false → f (slice_index x 0) ++ flat_map f (filled (drop 1 x)) ≡ flat_map f (filled x)
filled_step f [] some = absurd cc
filled_step f (v ∷ x) some = rw some refl

pub filled_none : (x : List ℕ) → list_all (λ v. v == 0) x ≡ true → filled x ≡ []
filled_none [] all = refl
filled_none (v ∷ x) all = rw all refl
