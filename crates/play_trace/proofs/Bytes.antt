-- SPDX-License-Identifier: MIT OR Apache-2.0
-- Bytes are those of the number that is read of them.
use Rattle.std.proofs.Common.{◌≡◌, ℕ, zero, suc, ◌+◌, ◌*◌, ◌/◌, ◌%◌, ◌^◌, ◌<◌, ◌≤◌, List, [], ◌∷◌, length, take, get_or, sym, ap, ◌∙◌, refl, arith}
use Rattle.std.proofs.Math.Nat.{div-div-eq-div-mul, pow-succ'}
use Rattle.std.specs.Int.{byte_at, bytes_low_first}
use Rattle.byteorder.specs.Endian.{little_from}
use Rattle.byteorder.specs.Numbers.{little_from-cons}

-- a byte of a number is one place lower in the number without its low byte
byte_lower : (i x : ℕ) → byte_at (suc i) x ≡ byte_at i (x / 256)
byte_lower zero x = refl
byte_lower (suc i) x =
    ap (λ p. x / p % 256) (pow-succ' 256 (suc i)) ∙ ap (λ q. q % 256) (sym (div-div-eq-div-mul x 256 (256 ^ suc i)))

bytes_lower : (i n x : ℕ) → bytes_low_first (suc i) n x ≡ bytes_low_first i n (x / 256)
bytes_lower i zero x = refl
bytes_lower i (suc n) x = rw (byte_lower i x, bytes_lower (suc i) n x) refl

pub bytes_read : (xs : List ℕ) (n : ℕ) → n ≤ length xs → ((k : ℕ) → get_or xs k 0 < 256) → bytes_low_first 0 n (little_from 0 n xs) ≡ take n xs
bytes_read xs zero inside small = refl
bytes_read [] (suc n) inside small = absurd (omega (arith, inside))
bytes_read (b ∷ xs) (suc n) inside small =
    let rest = little_from 0 n xs in
    let number : little_from 0 (suc n) (b ∷ xs) ≡ b + 256 * rest = ap (λ r. b + 256 * r) (little_from-cons 0 n b xs) in
    let low : (b + 256 * rest) % 256 ≡ b = omega (arith, small 0) in
    let high : (b + 256 * rest) / 256 ≡ rest = omega (arith, small 0) in
    ap (bytes_low_first 0 (suc n)) number
    ∙ ap (λ a. a ∷ bytes_low_first 1 n (b + 256 * rest)) low
    ∙ ap (λ l. b ∷ l) (bytes_lower 0 n (b + 256 * rest) ∙ ap (bytes_low_first 0 n) high ∙ bytes_read xs n (omega (arith, inside)) (λ k. small (suc k)))
