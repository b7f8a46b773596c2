-- SPDX-License-Identifier: MIT OR Apache-2.0
-- The words of some bytes: the first, and those behind it.
use Rattle.std.proofs.Common.{◌≡◌, ℕ, ◌+◌, ◌<◌, ◌⊎◌, List, [], ◌∷◌, ◌++◌, length, take, drop, not, ap, ◌∙◌, inl, inr, arith, ◌==◌}
use Rattle.std.specs.List.{position_or_len}
use Rattle.std.proofs.lemmas.List.Splits.{slice_split_first, slice_split_none, length-slice_split}
use Rattle.std.proofs.lemmas.List.Sums.{fails_before_first, passes_at_first, prefix_len-le-length, split_at_first}
use Rattle.std.proofs.lemmas.Bool.{cases_lt, eqb-true}
use Rattle.play_trace.specs.TraceLines.{space, words_of}

-- where the first word ends
abbrev pub word_end : List ℕ → ℕ
word_end xs = position_or_len (λ c. c == space) xs

-- no space: all is one word
pub one_word : (xs : List ℕ) → word_end xs ≡ length xs → words_of xs ≡ xs ∷ []
unfolding words_of
one_word xs h = slice_split_none (λ c. c == space) xs (λ k d below. fails_before_first (λ c. c == space) xs k d (omega (arith, below)))

-- the word before a space, and the words behind it
pub more_words : (xs : List ℕ) → word_end xs < length xs → words_of xs ≡ take (word_end xs) xs ∷ words_of (drop (word_end xs + 1) xs)
unfolding words_of
more_words xs h = slice_split_first (λ c. c == space) xs 0 h

-- some bytes have at least one word
pub some_word : (xs : List ℕ) → words_of xs ≡ [] → ⊥
unfolding words_of
some_word xs h = omega (arith, ap length h, length-slice_split (λ c. c == space) xs)

-- the first word, and what stands behind the space after it
pub record HasMore (xs : List ℕ) : Type 0 where
  pub rest : List ℕ
  pub whole : xs ≡ take (word_end xs) xs ++ space ∷ rest
  pub words : words_of xs ≡ take (word_end xs) xs ∷ words_of rest

-- all is one word, or a space parts the first from others
pub words_are : (xs : List ℕ) → (words_of xs ≡ xs ∷ []) ⊎ HasMore xs
words_are xs =
    elim (cases_lt (word_end xs) (length xs)) [ inl h ↦ inr (has_more h) | inr h ↦ inl (one_word xs (omega (arith, h, prefix_len-le-length (λ c. not (c == space)) xs))) ]
  where
    has_more : word_end xs < length xs → HasMore xs
    has_more h = record {
      rest = drop (word_end xs + 1) xs;
      whole = split_at_first (λ c. c == space) xs 0 h ∙ ap (λ c. take (word_end xs) xs ++ c ∷ drop (word_end xs + 1) xs) (eqb-true _ _ (passes_at_first (λ c. c == space) xs 0 h));
      words = more_words xs h;
    }
