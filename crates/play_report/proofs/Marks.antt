-- SPDX-License-Identifier: MIT OR Apache-2.0
-- Words that are cut at a mark.
use Rattle.std.proofs.Common.{◌≡◌, ℕ, ◌<◌, ◌≤◌, Bool, List, [], ◌∷◌, length, Option, Some, None, refl, ap, ◌∙◌, sym, arith, ◌==◌}
use Rattle.std.specs.List.{after_first, before_first, position_or_len, slice_split}
use Rattle.std.proofs.lemmas.List.Splits.{length-slice_split, slice_split_first, slice_split_none}
use Rattle.std.proofs.lemmas.List.Sums.{fails_before_first}
use denote.Ref.{Bor}
use Rattle.play_report.specs.Cuts.{parts_left}
use Rattle.play_report.specs.Members.{one_or_two}

-- a word with the mark
pub cut_first : (p : ℕ → Bool) (word before behind : List ℕ) → position_or_len p word < length word → before ≡ before_first p word → behind ≡ after_first p word
    → slice_split p word ≡ before ∷ slice_split p behind
cut_first p word before behind inside is rest =
    slice_split_first p word 0 inside
    ∙ ap (λ b. b ∷ slice_split p (after_first p word)) (sym is)
    ∙ ap (λ b. before ∷ slice_split p b) (sym rest)

-- a word without it
pub whole : (p : ℕ → Bool) (word : List ℕ) → position_or_len p word ≡ length word → slice_split p word ≡ word ∷ []
whole p word end = slice_split_none p word (λ k d below. fails_before_first p word k d (omega (arith, below)))

three_parts : (first second : List ℕ) (parts : List (List ℕ)) → 1 ≤ length parts → one_or_two (first ∷ second ∷ parts) ≡ None
three_parts first second [] some = absurd (omega (arith, some))
three_parts first second (part ∷ parts) some = refl

-- a word with the mark twice
pub too_many_parts : (mark : ℕ) (word first second : List ℕ) (more most : Option (Bor (List ℕ))) (behind rest : Bor (List ℕ))
    → slice_split (λ c. c == mark) word ≡ first ∷ parts_left mark more → more ≡ Some behind
    → slice_split (λ c. c == mark) behind.now ≡ second ∷ parts_left mark most → most ≡ Some rest
    → None ≡ one_or_two (slice_split (λ c. c == mark) word)
too_many_parts mark word first second more most behind rest word_is more_is behind_is most_is =
    let parts : slice_split (λ c. c == mark) word ≡ first ∷ second ∷ slice_split (λ c. c == mark) rest.now =
    word_is
    ∙ ap (λ o. first ∷ parts_left mark o) more_is
    ∙ ap (λ ps. first ∷ ps) (behind_is ∙ ap (λ o. second ∷ parts_left mark o) most_is)
    in
    sym (ap one_or_two parts ∙ three_parts first second (slice_split (λ c. c == mark) rest.now) (omega (arith, length-slice_split (λ c. c == mark) rest.now)))
