-- SPDX-License-Identifier: MIT OR Apache-2.0
-- Lists of which one element was written.
use Rattle.std.proofs.Common.{◌≡◌, ◌∙◌, ℕ, List, [], ◌∷◌, length, map, set, refl, ap, arith}
use Rattle.std.proofs.lemmas.List.{length-set, map-set}
use Rattle.std.specs.List.{refill}

-- written whole through a slice
pub refill-whole : {X : Type 0} (xs ws : List X) → length ws ≡ length xs → refill (length xs) xs ws ≡ ws
refill-whole [] [] same = refl
refill-whole [] (w ∷ ws) same = absurd (omega arith)
refill-whole (x ∷ xs) [] same = absurd (omega arith)
refill-whole (x ∷ xs) (w ∷ ws) same = ap (λ vs. w ∷ vs) (refill-whole xs ws (omega arith))

-- written through a slice of all elements
pub refill-set : {X : Type 0} (xs ys : List X) (i j : ℕ) (y : X) → ys ≡ xs → i ≡ j → refill (length xs) xs (set ys i y) ≡ set xs j y
refill-set {X} xs ys i j y same at = refill-whole xs (set ys i y) (length-set ys i y ∙ ap length same) ∙ (λ t. set (same t) (at t) y)

pub map-refill-set : {X Y : Type 0} (f : X → Y) (xs ys : List X) (i : ℕ) (y : X) → ys ≡ xs → map f (refill (length xs) xs (set ys i y)) ≡ set (map f xs) i (f y)
map-refill-set f xs ys i y same =
    ap (map f) (refill-set xs ys i i y same refl) ∙ map-set f xs i y
