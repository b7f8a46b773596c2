-- SPDX-License-Identifier: MIT OR Apache-2.0
-- The number that digits write, digit by digit.
use Rattle.std.proofs.Common.{◌≡◌, ℕ, ◌+◌, ◌*◌, ◌^◌, ◌<◌, ◌≤◌, List, length, take, get_or, fold, option_map, Option, Some, None, IfSome, refl, sym, ap, ◌∙◌, arith}
use Rattle.std.proofs.Math.Nat.{pow-le-pow_right, pow-suc}
use Rattle.std.proofs.Math.Numerals.{add-one}
use Rattle.std.proofs.lemmas.List.Sums.{fold_more}
use Rattle.std.proofs.lemmas.List.Folds.{fold_stuck}
use Rattle.play_trace.specs.TraceLines.{digit_value, with_digit}

-- so many bytes at the front are digits, and write this number
pub record Written (word : List ℕ) (number count : ℕ) : Type 0 where
  pub so_far : fold with_digit (Some 0) (take count word) ≡ Some number
  pub fits : number < 16 ^ count

pub digit_below : (b d : ℕ) → Some d ≡ digit_value b → d < 16
unfolding digit_value
digit_below b d e = grind (arith, e)

-- one digit more
pub one_more : (word : List ℕ) (number count d : ℕ) → Written word number count → count < length word → Some d ≡ digit_value (get_or word count 0)
    → Written word (16 * number + d) (count + 1)
one_more word number count d written inside is =
    let few : d < 16 = digit_below (get_or word count 0) d is in
    record {
      so_far = fold_more with_digit (Some 0) word count 0 inside
          ∙ ap (λ o. with_digit o (get_or word count 0)) written.so_far
          ∙ ap (option_map (λ x. 16 * number + x)) (sym is);
      fits = rw (add-one count, pow-suc 16 count) (omega (arith, written.fits));
    }

-- another digit fits a word too, where the digits so far are at most `most`
pub fits_more : (word : List ℕ) (number count most : ℕ) → Written word number count → count ≤ most → 16 * number + 15 < 16 ^ (most + 1)
fits_more word number count most written few =
    let some : 0 < 16 = omega arith in
    let below : 16 ^ count ≤ 16 ^ most = pow-le-pow_right some few in
    rw (add-one most, pow-suc 16 most) (omega (arith, written.fits, below))

-- a number of so many digits is one of at most as many
pub fits_in : (r : Option ℕ) (count most : ℕ) → IfSome r (λ n. n < 16 ^ count) → count ≤ most → IfSome r (λ n. n < 16 ^ most)
fits_in (Some number) count most fits few =
    let some : 0 < 16 = omega arith in
    let below : 16 ^ count ≤ 16 ^ most = pow-le-pow_right some few in
    omega (arith, fits, below)
fits_in None count most fits few = tt

-- a byte that is no digit
pub no_digit : (word : List ℕ) (number count : ℕ) → Written word number count → count < length word → None ≡ digit_value (get_or word count 0)
    → None ≡ fold with_digit (Some 0) word
no_digit word number count written inside is =
    fold_stuck with_digit None (λ x. refl) (Some 0) word count 0 inside
    (ap (λ o. with_digit o (get_or word count 0)) written.so_far ∙ ap (option_map (λ x. 16 * number + x)) (sym is))
