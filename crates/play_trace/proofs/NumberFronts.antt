-- SPDX-License-Identifier: MIT OR Apache-2.0
-- A number at the front of bytes, digit by digit.
use Rattle.std.proofs.Common.{◌≡◌, ℕ, ◌+◌, ◌-◌, ◌*◌, ◌^◌, ◌<◌, ◌≤◌, Bool, true, false, List, [], ◌∷◌, length, take, get_or, fold, Option, Some, None, option_map, not, drop, inl, inr, sym, ap, ◌∙◌, subst, arith, refl, length-take-le, take_all, take-append-drop, ◌==◌, unwrap_or}
use Rattle.std.proofs.Math.Seq.{take-suc}
use Rattle.std.proofs.Math.Nat.{pow-le-pow_right}
use Rattle.std.proofs.Math.Numerals.{add-one}
use Rattle.std.proofs.lemmas.List.{get_or-take, length-take, nil_from_length, take-take, take_rest}
use Rattle.std.proofs.lemmas.List.Sums.{fold-append, position_or_len_is, passes_at_first, prefix_len-le-length}
use Rattle.std.proofs.lemmas.Bool.{cases_lt, cases_Bool, eqb-true, true≢false}
use borrow.Author.Count.{below_more}
use Rattle.play_trace.specs.TraceLines.{digit_value, with_digit, number_of, space, words_of}
use Rattle.play_trace.specs.Parsed.{AreDigits, GoesOn, IsFront, value_at}
use Rattle.play_trace.specs.declared.line.Front.TheVariants.{Last, Other}
use Rattle.play_trace.proofs.DigitTable.{digit_small}
use Rattle.play_trace.proofs.LineNumbers.{more_digits, no_digit, no_number}
use Rattle.play_trace.proofs.LineWords.{word_end, one_word, more_words}
use Rattle.play_trace.proofs.Digits.{digit_below}

no_value : None ≡ digit_value 32
unfolding digit_value
no_value = refl

-- a digit is no space
pub no_space : (b d : ℕ) → Some d ≡ digit_value b → (b == space) ≡ false
no_space b d e = of (b == space) refl
  where
    of : (t : Bool) → (b == space) ≡ t → t ≡ false
    of false is = refl
    of true is =
        let none : Some d ≡ None = e ∙ ap digit_value (eqb-true b space is) ∙ sym no_value in
        absurd cc

pub one_more : (xs : List ℕ) (i n d : ℕ) → i < length xs → Some d ≡ digit_value (get_or xs i 0) → fold with_digit (Some 0) (take i xs) ≡ Some n
    → fold with_digit (Some 0) (take (i + 1) xs) ≡ Some (16 * n + d)
one_more xs i n d h e f =
    ap (λ k. fold with_digit (Some 0) (take k xs)) (add-one i)
    ∙ ap (fold with_digit (Some 0)) (take-suc xs i 0 h)
    ∙ fold-append with_digit (Some 0) (take i xs) (get_or xs i 0 ∷ [])
    ∙ ap (λ o. with_digit o (get_or xs i 0)) f
    ∙ ap (option_map (λ m. 16 * n + m)) (sym e)

pub more_below : (xs : List ℕ) (i d : ℕ) → Some d ≡ digit_value (get_or xs i 0) → ((k : ℕ) → k < i → (get_or xs k 0 == space) ≡ false)
    → (k : ℕ) → k < i + 1 → (get_or xs k 0 == space) ≡ false
more_below xs i d e h = below_more (λ k. (get_or xs k 0 == space) ≡ false) i h (no_space (get_or xs i 0) d e)

-- one digit more
pub longer : (xs : List ℕ) (n i v : ℕ) → AreDigits xs n i → i < length xs → v ≡ value_at xs i → v < 2 ^ 32 → AreDigits xs (16 * n + v) (i + 1)
longer xs n i v before inside is small =
    let digit : Some v ≡ digit_value (get_or xs i 0) = digit_small (digit_value (get_or xs i 0)) v is small in
    record {
      inside = omega arith;
      so_far = one_more xs i n v inside digit before.so_far;
      fits = more_digits n i v before.fits (digit_below (get_or xs i 0) v digit);
      digits = more_below xs i v digit before.digits;
    }

-- what four bytes write, or more
abbrev pub four_at : List ℕ → ℕ → ℕ
four_at xs i = 16 * (16 * (16 * value_at xs i + value_at xs (i + 1)) + value_at xs (i + 2)) + value_at xs (i + 3)

pub four_longer : (xs : List ℕ) (n i four : ℕ) → AreDigits xs n i → i + 4 ≤ length xs → four ≡ four_at xs i → four < 65536 → AreDigits xs (65536 * n + four) (i + 4)
four_longer xs n i four before inside is small =
    let a = value_at xs i in
    let b = value_at xs (i + 1) in
    let c = value_at xs (i + 2) in
    let d = value_at xs (i + 3) in
    let one = longer xs n i a before (omega (arith, inside)) refl (omega (arith, is, small)) in
    let two = longer xs (16 * n + a) (i + 1) b one (omega (arith, inside)) refl (omega (arith, is, small)) in
    let three = longer xs (16 * (16 * n + a) + b) (i + 1 + 1) c two (omega (arith, inside)) (at (i + 2) (i + 1 + 1) (omega arith)) (omega (arith, is, small)) in
    let all = longer xs (16 * (16 * (16 * n + a) + b) + c) (i + 1 + 1 + 1) d three (omega (arith, inside)) (at (i + 3) (i + 1 + 1 + 1) (omega arith)) (omega (arith, is, small)) in
    let number : 16 * (16 * (16 * (16 * n + a) + b) + c) + d ≡ 65536 * n + four = omega (arith, is) in
    let end : i + 1 + 1 + 1 + 1 ≡ i + 4 = omega arith in
    subst (λ m. AreDigits xs m (i + 4)) number (subst (λ k. AreDigits xs (16 * (16 * (16 * (16 * n + a) + b) + c) + d) k) end all)
  where
    at : (j k : ℕ) → j ≡ k → value_at xs j ≡ value_at xs k
    at j k e = ap (value_at xs) e

-- up to sixteen digits fit a word
pub fits : (xs : List ℕ) (n i : ℕ) → AreDigits xs n i → i ≤ 16 → n < 2 ^ 64
fits xs n i are h =
    let some : 0 < 16 = omega arith in
    let most : 16 ^ i ≤ 16 ^ 16 = pow-le-pow_right some h in
    omega (arith, are.fits, most)

writes : (xs : List ℕ) (n i : ℕ) → 1 ≤ i → i ≤ 16 → i ≤ length xs → fold with_digit (Some 0) (take i xs) ≡ Some n → number_of (take i xs) ≡ Some n
unfolding number_of
writes xs n i some few inside f =
    let size : length (take i xs) ≡ i = length-take-le i xs inside in
    grind (arith, size, f)

-- the first word is a number: all bytes, or those before a space
pub last_front : (xs : List ℕ) (n i : ℕ) → 1 ≤ i → i ≤ 16 → i ≡ length xs → AreDigits xs n i → IsFront xs (Last n)
last_front xs n i some few whole are =
    let end : word_end xs ≡ length xs = position_or_len_is (λ c. c == space) xs i 0 (omega arith) are.digits (λ inside. absurd (omega arith)) ∙ whole in
    (one_word xs end, ap number_of (sym (take_all i xs (omega arith))) ∙ writes xs n i some few (omega arith) are.so_far)

pub more_front : (xs : List ℕ) (n i : ℕ) → 1 ≤ i → i ≤ 16 → i < length xs → AreDigits xs n i → (get_or xs i 0 == space) ≡ true
    → (word : List ℕ) × (words_of xs ≡ word ∷ words_of (take (length xs - (i + 1)) (drop (i + 1) xs))) × (number_of word ≡ Some n)
more_front xs n i some few inside are here =
    let end : word_end xs ≡ i = position_or_len_is (λ c. c == space) xs i 0 (omega arith) are.digits (λ _. here) in (
      take i xs,
      more_words xs (omega arith) ∙ ap (λ k. take k xs ∷ words_of (drop (k + 1) xs)) end ∙ ap (λ l. take i xs ∷ words_of l) (sym (take_rest xs (i + 1))),
      writes xs n i some few (omega arith) are.so_far,
    )

-- the first word is no number
other_front : (xs : List ℕ) → number_of (take (word_end xs) xs) ≡ None → IsFront xs Other
other_front xs none =
    elim (cases_lt (word_end xs) (length xs)) [
      | inl h ↦ (take (word_end xs) xs, words_of (drop (word_end xs + 1) xs), more_words xs h, none)
      | inr h ↦
          let end : word_end xs ≡ length xs = omega (arith, h, prefix_len-le-length (λ c. not (c == space)) xs) in
          (xs, [], one_word xs end, ap number_of (sym (take_all (word_end xs) xs (omega arith))) ∙ none)
    ]

-- since there is none
none_of_none : number_of [] ≡ None
unfolding number_of
none_of_none = refl

pub no_bytes : (xs : List ℕ) (i : ℕ) → i ≡ length xs → GoesOn xs i → IsFront xs Other
no_bytes xs i whole on =
    let none : i ≡ 0 = elim (cases_lt 0 i) [ inl h ↦ absurd (omega (arith, on.inside (omega arith))) | inr h ↦ omega arith ] in
    let end : length (take (word_end xs) xs) ≡ 0 = omega (arith, length-take (word_end xs) xs) in
    other_front xs (ap number_of (nil_from_length (take (word_end xs) xs) end) ∙ none_of_none)

-- the word goes on where no space stands up to a place
goes_behind : (xs : List ℕ) (i : ℕ) → i < length xs → ((k : ℕ) → k < i + 1 → (get_or xs k 0 == space) ≡ false) → i < word_end xs
goes_behind xs i inside none =
    elim (cases_lt i (word_end xs)) [
      | inl h ↦ h
      | inr h ↦ absurd (true≢false (sym (passes_at_first (λ c. c == space) xs 0 (omega arith)) ∙ none (word_end xs) (omega arith)))
    ]

-- since it is too long
pub too_long : (xs : List ℕ) (n i : ℕ) → 16 ≤ i → AreDigits xs n i → GoesOn xs i → IsFront xs Other
unfolding number_of
too_long xs n i many are on =
    let behind : i < word_end xs = goes_behind xs i (on.inside (omega arith)) (below_more (λ k. (get_or xs k 0 == space) ≡ false) i are.digits (on.no_space (omega arith))) in
    let long : length (take (word_end xs) xs) ≡ word_end xs = length-take-le (word_end xs) xs (prefix_len-le-length (λ c. not (c == space)) xs) in
    other_front xs (grind (arith, behind, long, many))

-- since a byte is no digit
pub no_digit_at : (xs : List ℕ) (n i : ℕ) → AreDigits xs n i → GoesOn xs i → i < length xs → 2 ^ 32 ≤ value_at xs i → IsFront xs Other
no_digit_at xs n i are on inside large =
    elim (cases_Bool (get_or xs i 0 == space)) [
      | inl here ↦
          let first : i ≡ 0 = at_start here in
          let end : word_end xs ≡ 0 = position_or_len_is (λ c. c == space) xs 0 0 (omega arith) (λ k below. absurd (omega (arith, below))) (λ _. subst (λ j. (get_or xs j 0 == space) ≡ true) first here) in
          other_front xs (ap (λ k. number_of (take k xs)) end ∙ none_of_none)
      | inr here ↦
          let behind : i < word_end xs = goes_behind xs i inside (below_more (λ k. (get_or xs k 0 == space) ≡ false) i are.digits here) in
          other_front xs (sym (no_number (take (word_end xs) xs) (stops behind)))
    ]
  where
    at_start : (get_or xs i 0 == space) ≡ true → i ≡ 0
    at_start here =
        elim (cases_lt 0 i) [ inl h ↦ absurd (true≢false (sym here ∙ on.no_space (omega arith))) | inr h ↦ omega arith ]

    none_at : None ≡ digit_value (get_or xs i 0)
    none_at = of (digit_value (get_or xs i 0)) refl
      where
        of : (o : Option ℕ) → digit_value (get_or xs i 0) ≡ o → None ≡ o
        of None is = refl
        of (Some d) is = absurd (omega (arith, digit_below (get_or xs i 0) d (sym is), ap (λ o. unwrap_or o (2 ^ 32)) is, large))

    stops : i < word_end xs → fold with_digit (Some 0) (take (word_end xs) xs) ≡ None
    stops behind =
        let word = take (word_end xs) xs in
        let long : length word ≡ word_end xs = length-take-le (word_end xs) xs (prefix_len-le-length (λ c. not (c == space)) xs) in
        ap (fold with_digit (Some 0)) (sym (take-append-drop i word))
        ∙ fold-append with_digit (Some 0) (take i word) (drop i word)
        ∙ ap (λ o. fold with_digit o (drop i word)) (ap (fold with_digit (Some 0)) (take-take i (word_end xs) xs (omega arith)) ∙ are.so_far)
        ∙ no_digit word n i (omega arith) (none_at ∙ ap digit_value (sym (get_or-take (word_end xs) xs i 0 behind)))

-- digits with no space behind them
pub on_at : (xs : List ℕ) (i : ℕ) → i < length xs → (get_or xs i 0 == space) ≡ false → GoesOn xs i
on_at xs i h none = record { inside = λ _. h; no_space = λ _. none }
