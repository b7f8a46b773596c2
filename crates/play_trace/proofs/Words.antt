-- SPDX-License-Identifier: MIT OR Apache-2.0
-- The words of a line that is put together of a name and words behind it.
use Rattle.std.proofs.Common.{◌≡◌, ℕ, Bool, true, false, List, [], ◌∷◌, ◌++◌, not, ap, ◌∙◌, arith, refl, append-nil, ◌==◌, ◌&&◌}
use Rattle.std.specs.List.{list_all, flat_map, onto_first}
use Rattle.std.proofs.lemmas.List.Folds.{list_all-append}
use Rattle.std.proofs.lemmas.List.Splits.{slice_split-cons_no}
use Rattle.std.proofs.lemmas.Bool.{and_parts}
use Rattle.play_trace.specs.TraceLines.{feed, space, has_no_feed, words_of}
use Rattle.play_trace.specs.TraceText.{spaced}

-- neither ends a word nor a line
abbrev pub is_plain : ℕ → Bool
is_plain c = not (c == space) && not (c == feed)

abbrev pub are_plain : List (List ℕ) → Bool
are_plain words = list_all (list_all is_plain) words

-- a name, and words, each behind a space
abbrev pub line : List ℕ → List (List ℕ) → List ℕ
line name words = name ++ flat_map spaced words

no_space : (c : ℕ) → is_plain c ≡ true → (c == space) ≡ false
no_space c h = grind (arith, h)

no_feed : (c : ℕ) → is_plain c ≡ true → not (c == feed) ≡ true
no_feed c h = grind (arith, h)

-- one word, and a word before others
one_word : (w : List ℕ) → list_all is_plain w ≡ true → words_of w ≡ w ∷ []
unfolding words_of
one_word [] h = refl
one_word (c ∷ w) h =
    let all = and_parts (is_plain c) (list_all is_plain w) h in
    slice_split-cons_no (λ c. c == space) c w (no_space c all.0) ∙ ap (onto_first c) (one_word w all.1)

more_words : (w rest : List ℕ) → list_all is_plain w ≡ true → words_of (w ++ space ∷ rest) ≡ w ∷ words_of rest
unfolding words_of
more_words [] rest h = refl
more_words (c ∷ w) rest h =
    let all = and_parts (is_plain c) (list_all is_plain w) h in
    slice_split-cons_no (λ c. c == space) c (w ++ space ∷ rest) (no_space c all.0) ∙ ap (onto_first c) (more_words w rest all.1)

pub words-line : (name : List ℕ) (words : List (List ℕ)) → list_all is_plain name ≡ true → are_plain words ≡ true → words_of (line name words) ≡ name ∷ words
words-line name [] plain h = ap words_of (append-nil name) ∙ one_word name plain
words-line name (w ∷ words) plain h =
    let all = and_parts (list_all is_plain w) (are_plain words) h in
    more_words name (line w words) plain ∙ ap (λ ws. name ∷ ws) (words-line w words all.0 all.1)

plain_feed : (w : List ℕ) → list_all is_plain w ≡ true → has_no_feed w ≡ true
plain_feed [] h = refl
plain_feed (c ∷ w) h =
    let all = and_parts (is_plain c) (list_all is_plain w) h in
    rw (no_feed c all.0, plain_feed w all.1) refl

pub single-line : (name : List ℕ) (words : List (List ℕ)) → list_all is_plain name ≡ true → are_plain words ≡ true → has_no_feed (line name words) ≡ true
single-line name [] plain h = ap has_no_feed (append-nil name) ∙ plain_feed name plain
single-line name (w ∷ words) plain h =
    let all = and_parts (list_all is_plain w) (are_plain words) h in
    list_all-append (λ c. not (c == feed)) name (space ∷ line w words) ∙ rw (plain_feed name plain, single-line w words all.0 all.1) refl
