-- SPDX-License-Identifier: MIT OR Apache-2.0
-- The first word of a text, and the words behind it.
use Rattle.std.proofs.Common.{◌≡◌, ℕ, ◌+◌, ◌<◌, ◌≤◌, ◌⊎◌, Bool, List, [], ◌∷◌, length, take, drop, Option, None, Some, inl, inr, sym, ◌∙◌, subst, arith, refl, ◌==◌, not, position}
use Rattle.std.specs.List.{position_or_len}
use Rattle.std.proofs.lemmas.Bool.{cases_lt, le-ltb, lt-ltb}
use Rattle.std.proofs.lemmas.List.Sums.{prefix_len-le-length}
use Rattle.play_trace.specs.TraceLines.{space, words_of}
use Rattle.play_trace.proofs.LineWords.{more_words, one_word}

pub position_some : (p : ℕ → Bool) (xs : List ℕ) (end : ℕ) → position p xs ≡ Some end → (position_or_len p xs ≡ end) × (end < length xs)
position_some p xs end is = of (cases_lt (position_or_len p xs) (length xs))
  where
    of : (position_or_len p xs < length xs) ⊎ (length xs ≤ position_or_len p xs) → (position_or_len p xs ≡ end) × (end < length xs)
    of (inl below) =
        let at : position p xs ≡ Some (position_or_len p xs) = rw (lt-ltb (position_or_len p xs) (length xs) below) refl in
        let both : Some (position_or_len p xs) ≡ Some end = sym at ∙ is in
        let same : position_or_len p xs ≡ end = cc in
        (same, subst (λ n. n < length xs) same below)
    of (inr beyond) =
        let at : position p xs ≡ None = rw (le-ltb (position_or_len p xs) (length xs) beyond) refl in
        let both : ◌≡◌ {A = Option ℕ} None (Some end) = sym at ∙ is in
        absurd cc

pub position_none : (p : ℕ → Bool) (xs : List ℕ) → position p xs ≡ None → position_or_len p xs ≡ length xs
position_none p xs is = of (cases_lt (position_or_len p xs) (length xs))
  where
    of : (position_or_len p xs < length xs) ⊎ (length xs ≤ position_or_len p xs) → position_or_len p xs ≡ length xs
    of (inl below) =
        let at : position p xs ≡ Some (position_or_len p xs) = rw (lt-ltb (position_or_len p xs) (length xs) below) refl in
        let both : ◌≡◌ {A = Option ℕ} None (Some (position_or_len p xs)) = sym is ∙ at in
        absurd cc
    of (inr beyond) = omega (arith, beyond, prefix_len-le-length (λ c. not (p c)) xs)

pub cut_some : (text : List ℕ) (end : ℕ) → position (λ c. c == space) text ≡ Some end → words_of text ≡ take end text ∷ words_of (drop (end + 1) text)
cut_some text end is =
    let at = position_some (λ c. c == space) text end is in
    subst (λ n. words_of text ≡ take n text ∷ words_of (drop (n + 1) text)) at.0
    (more_words text (subst (λ n. n < length text) (sym at.0) at.1))

pub cut_none : (text : List ℕ) → position (λ c. c == space) text ≡ None → words_of text ≡ text ∷ []
cut_none text is = one_word text (position_none (λ c. c == space) text is)
