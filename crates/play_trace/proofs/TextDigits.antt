-- SPDX-License-Identifier: MIT OR Apache-2.0
-- The digits of a number, two of each byte.
use Rattle.std.proofs.Common.{◌≡◌, ℕ, zero, suc, ◌+◌, ◌-◌, ◌*◌, ◌/◌, ◌%◌, ◌^◌, ◌<◌, ◌≤◌, true, List, take, take_all, drop, length, get_or, sym, ap, ◌∙◌, arith, refl, pow-add, ◌==◌, suc-add}
use Rattle.std.proofs.Math.Nat.{div-div-eq-div-mul}
use Rattle.std.proofs.lemmas.Bool.{agree_below_at, eqb-true}
use Rattle.play_trace.specs.TraceText.{hex, digit}
use Rattle.play_trace.specs.declared.text.TheConstants.{PAIRS}

-- what stands in the table for a byte
pub pair_high : (b : ℕ) → b < 256 → get_or PAIRS (2 * b) 0 ≡ digit (b / 16)
pair_high b h = eqb-true (get_or PAIRS (2 * b) 0) (digit (b / 16)) (agree_below_at (λ b. get_or PAIRS (2 * b) 0 == digit (b / 16)) (λ b. true) 256 b refl h)

pub pair_low : (b : ℕ) → b < 256 → get_or PAIRS (2 * b + 1) 0 ≡ digit (b % 16)
pair_low b h = eqb-true (get_or PAIRS (2 * b + 1) 0) (digit (b % 16)) (agree_below_at (λ b. get_or PAIRS (2 * b + 1) 0 == digit (b % 16)) (λ b. true) 256 b refl h)

-- a shift by eight places a byte
bytes_up : (n : ℕ) → 2 ^ (8 * n) ≡ 16 ^ (2 * n)
bytes_up zero = refl
bytes_up (suc n) =
    let eight : 8 * suc n ≡ 8 * n + 8 = omega arith in
    let two : 2 * suc n ≡ 2 * n + 2 = omega arith in
    ap (λ k. 2 ^ k) eight ∙ pow-add 2 (8 * n) 8 ∙ ap (λ k. k * 256) (bytes_up n) ∙ sym (pow-add 16 (2 * n) 2) ∙ ap (λ k. 16 ^ k) (sym two)

byte_high : (y : ℕ) → y % 256 / 16 ≡ y / 16 % 16
byte_high y = omega arith

byte_low : (y : ℕ) → y % 256 % 16 ≡ y % 16
byte_low y = omega arith

pub digit_high : (x n : ℕ) → x / 2 ^ (8 * n) % 256 / 16 ≡ x / 16 ^ (2 * n + 1) % 16
digit_high x n =
    ap (λ k. x / k % 256 / 16) (bytes_up n) ∙ byte_high (x / 16 ^ (2 * n)) ∙ ap (λ q. q % 16) (div-div-eq-div-mul x (16 ^ (2 * n)) 16 ∙ ap (λ k. x / k) (sym (pow-add 16 (2 * n) 1)))

pub digit_low : (x n : ℕ) → x / 2 ^ (8 * n) % 256 % 16 ≡ x / 16 ^ (2 * n) % 16
digit_low x n = ap (λ k. x / k % 256 % 16) (bytes_up n) ∙ byte_low (x / 16 ^ (2 * n))

-- the last digits are those of the lower places
last_digits : (k n x : ℕ) → drop k (hex (k + n) x) ≡ hex n x
last_digits zero n x = let none : 0 + n ≡ n = omega arith in ap (λ k. hex k x) none
last_digits (suc k) n x = ap (λ m. drop (suc k) (hex m x)) (suc-add k n) ∙ last_digits k n x

last_of_all : (n x : ℕ) → n ≤ 16 → drop (16 - n) (hex 16 x) ≡ hex n x
last_of_all n x h =
    let all : 16 ≡ 16 - n + n = omega arith in
    ap (λ k. drop (16 - n) (hex k x)) all ∙ last_digits (16 - n) n x

pub length-hex : (n x : ℕ) → length (hex n x) ≡ n
length-hex zero x = refl
length-hex (suc n) x = omega (arith, length-hex n x)

pub rest_of_all : (all : List ℕ) (n x : ℕ) → n ≤ 16 → all ≡ hex 16 x → take (16 - (16 - n)) (drop (16 - n) all) ≡ hex n x
rest_of_all all n x h e =
    ap (λ l. take (16 - (16 - n)) (drop (16 - n) l)) e ∙ ap (take (16 - (16 - n))) (last_of_all n x h) ∙ take_all (16 - (16 - n)) (hex n x) (omega (arith, length-hex n x, h))
