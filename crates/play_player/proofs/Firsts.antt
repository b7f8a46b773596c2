-- SPDX-License-Identifier: MIT OR Apache-2.0
-- The first byte that a search finds.
use Rattle.std.proofs.Common.{◌≡◌, ℕ, Bool, true, false, List, length, position, Option, Some, None, arith, refl}
use Rattle.std.specs.Prelude.{◌==◌}
use Rattle.std.specs.List.{position_or_len}
use Rattle.std.proofs.lemmas.List.Sums.{position_or_len_is}
use Rattle.memchr.specs.Find.{IsFirstByte, is_byte}

fails : (t : Bool) → (t ≡ true → ⊥) → t ≡ false
fails true h = absurd (h refl)
fails false h = refl

pub first_place : (b : ℕ) (xs : List ℕ) (r : Option ℕ) → IsFirstByte (is_byte b) xs r → r ≡ position (λ c. c == b) xs
first_place b xs None h =
    let is : position_or_len (λ c. c == b) xs ≡ length xs =
    position_or_len_is (λ c. c == b) xs (length xs) 0 (omega arith) (λ k below. fails _ (h k (omega arith) below)) (λ inside. absurd (omega (arith, inside))) in
    grind (arith, is)
first_place b xs (Some k) h =
    let high = h.0.high in
    let is : position_or_len (λ c. c == b) xs ≡ k =
    position_or_len_is (λ c. c == b) xs k 0 (omega (arith, high)) (λ j below. fails _ (h.0.before j (omega arith) below)) (λ _. h.1) in
    grind (arith, is, high)
