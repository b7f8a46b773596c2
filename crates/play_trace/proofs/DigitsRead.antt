-- SPDX-License-Identifier: MIT OR Apache-2.0
-- Hexadecimal digits are read as the number that was written.
use Rattle.std.proofs.Common.{◌≡◌, ℕ, zero, suc, ◌+◌, ◌*◌, ◌/◌, ◌%◌, ◌^◌, ◌<◌, ◌≤◌, true, length, fold, Some, option_map, sym, ap, ◌∙◌, arith, refl, pow-add, if◌then◌else◌, None}
use Rattle.std.specs.List.{list_all}
use Rattle.std.proofs.Math.Nat.{lt-mul-div-succ, mod-eq_of_lt, mod-lt, one-le-pow, pow-suc, pow-succ'}
use Rattle.std.proofs.Math.Arith.{mod-mul}
use Rattle.std.proofs.lemmas.Bool.{agree_below_at}
use Rattle.ffa_model.specs.Manifest.{is_from_to}
use Rattle.play_trace.specs.TraceLines.{digit_value, with_digit, number_of}
use Rattle.play_trace.specs.TraceText.{digit, hex}
use Rattle.play_trace.proofs.Words.{is_plain}
use Rattle.play_trace.proofs.TextDigits.{length-hex}

digit_read : (d : ℕ) → d < 16 → digit_value (digit d) ≡ Some d
unfolding digit_value
digit_read d h = grind (arith, h)

-- the digits that follow a number
digits_read : (n a x : ℕ) → fold with_digit (Some a) (hex n x) ≡ Some (a * 16 ^ n + x % 16 ^ n)
digits_read zero a x = ap Some (omega arith)
digits_read (suc n) a x =
    let d = x / 16 ^ n % 16 in
    let some : 0 < 16 ^ n = omega (arith, one-le-pow n 16 (omega arith)) in
    let split : x % (16 * 16 ^ n) ≡ d * 16 ^ n + x % 16 ^ n = mod-mul x {m = 16} {c = 16 ^ n} (omega arith) some in
    ap (λ o. fold with_digit (option_map (λ e. 16 * a + e) o) (hex n x)) (digit_read d (mod-lt (x / 16 ^ n) (omega arith)))
    ∙ digits_read n (16 * a + d) x
    ∙ ap Some (rw (pow-succ' 16 n, split) (omega arith))

-- 1 to 16 digits of a number that has no more
pub hex_read : (n x : ℕ) → 1 ≤ n → n ≤ 16 → x < 16 ^ n → number_of (hex n x) ≡ Some x
unfolding number_of
hex_read n x some few fits =
    let counted : is_from_to 1 16 (length (hex n x)) ≡ true = rw (length-hex n x) (grind (arith, some, few)) in
    ap (λ b. if b then fold with_digit (Some 0) (hex n x) else None) counted ∙ digits_read n 0 x ∙ ap Some (omega (arith, mod-eq_of_lt fits))

digit_plain : (d : ℕ) → d < 16 → is_plain (digit d) ≡ true
digit_plain d h = agree_below_at (λ d. is_plain (digit d)) (λ d. true) 16 d refl h

pub hex_plain : (n x : ℕ) → list_all is_plain (hex n x) ≡ true
hex_plain zero x = refl
hex_plain (suc n) x = rw (digit_plain (x / 16 ^ n % 16) (mod-lt (x / 16 ^ n) (omega arith)), hex_plain n x) refl

-- HOW A DIGIT IS FOUND

-- a shift by four bits a place
pub places_up : (n : ℕ) → 2 ^ (4 * n) ≡ 16 ^ n
places_up zero = refl
places_up (suc n) =
    let four : 4 * suc n ≡ 4 * n + 4 = omega arith in
    ap (λ k. 2 ^ k) four ∙ pow-add 2 (4 * n) 4 ∙ ap (λ k. k * 16) (places_up n) ∙ sym (pow-suc 16 n)

-- a number with no digit from a place on
pub none_above : (x n : ℕ) → x / 2 ^ (4 * n) ≡ 0 → x < 16 ^ n
none_above x n h =
    let some : 0 < 16 ^ n = omega (arith, one-le-pow n 16 (omega arith)) in
    let none : x / 16 ^ n ≡ 0 = ap (λ p. x / p) (sym (places_up n)) ∙ h in
    let below : x < 16 ^ n * (x / 16 ^ n + 1) = lt-mul-div-succ x some in
    let all : 16 ^ n * (x / 16 ^ n + 1) ≡ 16 ^ n = rw none (omega arith) in
    omega (arith, below, all)
