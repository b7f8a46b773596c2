-- SPDX-License-Identifier: MIT OR Apache-2.0
-- The lines of a text.
use Rattle.std.proofs.Common.{◌≡◌, ℕ, ◌+◌, ◌<◌, Bool, true, false, List, [], ◌∷◌, ◌++◌, length, take, drop, None, Some, inl, inr, sym, ap, ◌∙◌, subst, refl, ◌==◌, ◌⊎◌, not, position}
use Rattle.std.specs.List.{list_all, position_or_len, take_while}
use Rattle.std.proofs.lemmas.Bool.{and_parts, and_from, cases_Bool, eqb-true, not-true}
use Rattle.std.proofs.lemmas.List.{append_cancel_left}
use Rattle.std.proofs.lemmas.List.Sums.{passes_at_first, split_at_first, take_while-cons}
use Rattle.std.proofs.Math.Seq.{take-length}
use Rattle.play_trace.specs.TraceLines.{feed, has_no_feed}
use Rattle.play_trace.proofs.Cutting.{position_some, position_none}
use Rattle.play_player.specs.Guards.{lines_in, onto_line}

-- THE FIRST LINE

taken_more : (p : ℕ → Bool) (x : ℕ) (xs : List ℕ) → list_all p (take_while p xs) ≡ true → list_all p (take_while p (x ∷ xs)) ≡ true
taken_more p x xs more = of (cases_Bool (p x))
  where
    of : (p x ≡ true) ⊎ (p x ≡ false) → list_all p (take_while p (x ∷ xs)) ≡ true
    of (inl so) =
        let taken : take_while p (x ∷ xs) ≡ x ∷ take_while p xs = take_while-cons p x xs ∙ rw so refl in
        ap (list_all p) taken ∙ and_from (p x) (list_all p (take_while p xs)) so more
    of (inr other) =
        let taken : take_while p (x ∷ xs) ≡ [] = take_while-cons p x xs ∙ rw other refl in
        ap (list_all p) taken

pub all_taken : (p : ℕ → Bool) (xs : List ℕ) → list_all p (take_while p xs) ≡ true
all_taken p [] = refl
all_taken p (x ∷ xs) = taken_more p x xs (all_taken p xs)

-- a line ends where the first LF of a text stands
pub record EndsLine (text : List ℕ) (end : ℕ) : Type 0 where
  pub whole : text ≡ take end text ++ feed ∷ drop (end + 1) text
  pub single : has_no_feed (take end text) ≡ true
  pub inside : end < length text

pub ends_line : (text : List ℕ) (end : ℕ) → position (λ c. c == feed) text ≡ Some end → EndsLine text end
ends_line text end is =
    let at = position_some (λ c. c == feed) text end is in
    let below : position_or_len (λ c. c == feed) text < length text = subst (λ n. n < length text) (sym at.0) at.1 in
    let split = split_at_first (λ c. c == feed) text 0 below ∙ ap (λ c. take (position_or_len (λ x. x == feed) text) text ++ c ∷ drop (position_or_len (λ x. x == feed) text + 1) text) (eqb-true _ _ (passes_at_first (λ c. c == feed) text 0 below)) in
    record {
      whole = subst (λ n. text ≡ take n text ++ feed ∷ drop (n + 1) text) at.0 split;
      single = subst (λ n. has_no_feed (take n text) ≡ true) at.0 (all_taken (λ c. not (c == feed)) text);
      inside = at.1;
    }

-- ALL LINES

pub lines_in-line : (line rest : List ℕ) → has_no_feed line ≡ true → lines_in (line ++ feed ∷ rest) ≡ line ∷ lines_in rest
lines_in-line [] rest single = refl
lines_in-line (c ∷ line) rest single =
    let parts = and_parts (not (c == feed)) (has_no_feed line) single in
    rw (not-true (c == feed) parts.0) (ap (onto_line c) (lines_in-line line rest parts.1))

lines_in-none : (text : List ℕ) → has_no_feed text ≡ true → lines_in text ≡ []
lines_in-none [] single = refl
lines_in-none (c ∷ text) single =
    let parts = and_parts (not (c == feed)) (has_no_feed text) single in
    rw (not-true (c == feed) parts.0) (ap (onto_line c) (lines_in-none text parts.1))

-- by where the first LF stands
pub lines_in-some : (text : List ℕ) (end : ℕ) → position (λ c. c == feed) text ≡ Some end → lines_in text ≡ take end text ∷ lines_in (drop (end + 1) text)
lines_in-some text end is =
    let ends = ends_line text end is in
    ap lines_in ends.whole ∙ lines_in-line (take end text) (drop (end + 1) text) ends.single

pub lines_in-end : (text : List ℕ) → position (λ c. c == feed) text ≡ None → lines_in text ≡ []
lines_in-end text is =
    let all : take_while (λ c. not (c == feed)) text ≡ text = ap (λ n. take n text) (position_none (λ c. c == feed) text is) ∙ take-length text in
    lines_in-none text (ap has_no_feed (sym all) ∙ all_taken (λ c. not (c == feed)) text)

-- no LF stands in them
onto_single : (c : ℕ) (lines : List (List ℕ)) → (c == feed) ≡ false → list_all has_no_feed lines ≡ true → list_all has_no_feed (onto_line c lines) ≡ true
onto_single c [] other each = refl
onto_single c (line ∷ lines) other each =
    let parts = and_parts (has_no_feed line) (list_all has_no_feed lines) each in
    and_from _ _ (and_from _ _ (ap not other) parts.0) parts.1

pub lines_in-single : (text : List ℕ) → list_all has_no_feed (lines_in text) ≡ true
lines_in-single [] = refl
lines_in-single (c ∷ text) = of (cases_Bool (c == feed)) (lines_in-single text)
  where
    of : ((c == feed) ≡ true) ⊎ ((c == feed) ≡ false) → list_all has_no_feed (lines_in text) ≡ true → list_all has_no_feed (lines_in (c ∷ text)) ≡ true
    of (inl ends) each = rw ends each
    of (inr other) each = rw other (onto_single c (lines_in text) other each)

-- a line and its LF begin a text in one way
pub line_same : (x y a b : List ℕ) → has_no_feed x ≡ true → has_no_feed y ≡ true → x ++ feed ∷ a ≡ y ++ feed ∷ b → (x ≡ y) × (a ≡ b)
line_same x y a b single singly same =
    let firsts : x ∷ lines_in a ≡ y ∷ lines_in b = sym (lines_in-line x a single) ∙ ap lines_in same ∙ lines_in-line y b singly in
    let lines : x ≡ y = cc in
    let rests : feed ∷ a ≡ feed ∷ b = append_cancel_left y (feed ∷ a) (feed ∷ b) (ap (λ l. l ++ feed ∷ a) (sym lines) ∙ same) in
    (lines, cc)
