-- SPDX-License-Identifier: MIT OR Apache-2.0
-- Words that are compared one by one.
use Rattle.std.proofs.Common.{◌≡◌, ℕ, Bool, true, false, List, [], ◌∷◌, Option, None, Some, sym, ap, ◌∙◌, refl, ◌&&◌, ◌||◌, codes, not}
use Rattle.play_trace.specs.TraceLines.{words_of}
use Rattle.play_trace.proofs.LineWords.{one_word, some_word}
use Rattle.play_player.specs.Asking.{AreWords}
use Rattle.play_player.specs.Patterns.{fit, is_alike}

-- the words of what stands behind a word, if something does
abbrev pub option_words : Option (List ℕ) → List (List ℕ)
option_words None = []
option_words (Some rest) = words_of rest

-- behind the last word that is wanted: anything, or zeros, where these are asked for, or else nothing
as_loose : (numbers loose zeros : Bool) → (numbers && not loose) ≡ false → (loose || (numbers && zeros)) ≡ loose
as_loose true true zeros other = refl
as_loose true false zeros other = absurd cc
as_loose false true zeros other = refl
as_loose false false zeros other = refl

as_zeros : (numbers loose zeros : Bool) → (numbers && not loose) ≡ true → (loose || (numbers && zeros)) ≡ zeros
as_zeros true true zeros asked = absurd cc
as_zeros true false zeros asked = refl
as_zeros false loose zeros asked = absurd cc

module _ (numbers loose : Bool) where
  -- what is left to compare
  abbrev pub fit_rest : Option (List ℕ) → Option (List ℕ) → Bool
  fit_rest None None = true
  fit_rest None (Some rest) = fit numbers loose [] (words_of rest)
  fit_rest (Some more) None = false
  fit_rest (Some more) (Some rest) = fit numbers loose (words_of more) (words_of rest)

  fit_no_zeros : (words : List (List ℕ)) → (words ≡ [] → ⊥) → (numbers && not loose) ≡ false → fit numbers loose [] words ≡ loose
  fit_no_zeros [] some other = absurd (some refl)
  fit_no_zeros (word ∷ words) some other = as_loose numbers loose (is_alike numbers (codes "0") word && fit numbers loose [] words) other

  fit_zeros : (words : List (List ℕ)) → (words ≡ [] → ⊥) → (numbers && not loose) ≡ true → fit numbers loose [] words ≡ fit numbers loose (codes "0" ∷ []) words
  fit_zeros [] some asked = absurd (some refl)
  fit_zeros (word ∷ words) some asked = as_zeros numbers loose (is_alike numbers (codes "0") word && fit numbers loose [] words) asked

  fit_short : (words : List (List ℕ)) → (words ≡ [] → ⊥) → fit numbers loose words [] ≡ false
  fit_short [] none = absurd (none refl)
  fit_short (word ∷ words) some = refl

  behind : (more rest : Option (List ℕ)) (words its : List (List ℕ)) → option_words more ≡ words → option_words rest ≡ its → fit numbers loose words its ≡ fit_rest more rest
  behind None None words its is are = sym (ap (λ w. fit numbers loose w (option_words None)) is ∙ ap (fit numbers loose words) are)
  behind None (Some rest) words its is are =
      sym (ap (λ w. fit numbers loose w (words_of rest)) is ∙ ap (fit numbers loose words) are)
  behind (Some more) None words its is are =
      sym (ap (λ w. fit numbers loose w (option_words None)) is ∙ ap (fit numbers loose words) are) ∙ fit_short (words_of more) (some_word more)
  behind (Some more) (Some rest) words its is are = sym (ap (λ w. fit numbers loose w (words_of rest)) is ∙ ap (fit numbers loose words) are)

  words_split : (text word : List ℕ) (more : Option (List ℕ)) → AreWords text word more → words_of text ≡ word ∷ option_words more
  words_split text word None is = is
  words_split text word (Some more) is = is

  first_two : (text line word its : List ℕ) (more rest : Option (List ℕ)) → AreWords text word more → AreWords line its rest
      → fit numbers loose (words_of text) (words_of line) ≡ (is_alike numbers word its && fit_rest more rest)
  first_two text line word its more rest is are =
      ap (λ w. fit numbers loose w (words_of line)) (words_split text word more is) ∙ ap (fit numbers loose (word ∷ option_words more)) (words_split line its rest are)
      ∙ ap (λ b. is_alike numbers word its && b) (behind more rest (option_words more) (option_words rest) refl refl)

  pub fit_alike : (text line word its : List ℕ) (more rest : Option (List ℕ)) → AreWords text word more → AreWords line its rest → is_alike numbers word its ≡ true
      → fit numbers loose (words_of text) (words_of line) ≡ fit_rest more rest
  fit_alike text line word its more rest is are alike = first_two text line word its more rest is are ∙ rw alike refl

  -- what the loop does at its end, and where it goes on
  pub rest_loose : (rest : List ℕ) → (numbers && not loose) ≡ false → fit_rest None (Some rest) ≡ loose
  rest_loose rest other = fit_no_zeros (words_of rest) (some_word rest) other

  pub rest_zeros : (rest : List ℕ) → (numbers && not loose) ≡ true → fit_rest None (Some rest) ≡ fit numbers loose (words_of (codes "0")) (words_of rest)
  rest_zeros rest asked = fit_zeros (words_of rest) (some_word rest) asked ∙ ap (λ w. fit numbers loose w (words_of rest)) (sym (one_word (codes "0") refl))
