-- SPDX-License-Identifier: MIT OR Apache-2.0
-- The number that digits write, digit by digit.
use Rattle.std.proofs.Common.{◌≡◌, ℕ, ◌+◌, ◌*◌, ◌^◌, ◌<◌, List, [], ◌∷◌, length, drop, get_or, fold, option_map, Some, None, sym, ap, ◌∙◌, arith, refl}
use Rattle.std.proofs.Math.Nat.{pow-suc}
use Rattle.std.proofs.Math.Numerals.{add-one}
use Rattle.std.proofs.lemmas.List.{drop_more}
use Rattle.play_trace.specs.TraceLines.{digit_value, with_digit, number_of}

-- what is no number stays none
fold_none : (cs : List ℕ) → fold with_digit None cs ≡ None
fold_none [] = refl
fold_none (c ∷ cs) = fold_none cs

pub no_digit : (word : List ℕ) (n i : ℕ) → i < length word → None ≡ digit_value (get_or word i 0)
    → fold with_digit (Some n) (drop i word) ≡ None
no_digit word n i h e =
    ap (fold with_digit (Some n)) (drop_more word i 0 h)
    ∙ ap (λ o. fold with_digit (option_map (λ x. 16 * n + x) o) (drop (i + 1) word)) (sym e) ∙ fold_none (drop (i + 1) word)

-- a number of i digits has one more
pub more_digits : (n i d : ℕ) → n < 16 ^ i → d < 16 → 16 * n + d < 16 ^ (i + 1)
more_digits n i d h k = rw (add-one i, pow-suc 16 i) (omega arith)

pub no_number : (word : List ℕ) → fold with_digit (Some 0) word ≡ None → None ≡ number_of word
unfolding number_of
no_number word h = grind arith
