-- SPDX-License-Identifier: MIT OR Apache-2.0
-- What reading a line gives.
use Rattle.std.proofs.Common.{◌≡◌, ◌≢◌, ◌⊎◌, ◌-◌, ℕ, suc, Bool, true, false, List, [], ◌∷◌, ◌++◌, length, take, Option, None, Some, Result, Ok, Err, inl, inr, sym, ap, ◌∙◌, subst, arith, length-append, refl, ◌==◌, All, IfSome, is_some}
use Rattle.std.specs.Io.KnownBytes.{Consumes}
use Rattle.std.specs.Io.{StopsAt}
use Rattle.std.specs.Io.BufRead.{take_through}
use Rattle.std.proofs.lemmas.Bool.{cases_Bool, eqb-true}
use Rattle.std.proofs.lemmas.List.Folds.{list_all-append}
use Rattle.std.proofs.Math.Seq.{take-append_seam}
use Rattle.play_trace.specs.TraceLines.{feed, has_no_feed, line_in}
use Rattle.play_trace.specs.declared.lines.Line.{Line}
use Rattle.play_trace.specs.declared.output.PlayError.{PlayError}
use Rattle.play_trace.specs.declared.output.PlayError.TheVariants.{Read, Write, NoMemory, BadLine}
use Rattle.play_player.specs.Reading.{IsAll, ReadsLine, TakesFeed, TakesLine, TakesWhole}
use Rattle.play_player.specs.Steps.{Refuses}

one_free : (x : ℕ) (xs : List ℕ) → x ≢ feed → has_no_feed xs ≡ true → has_no_feed (x ∷ xs) ≡ true
one_free x xs other rest =
    elim (cases_Bool (x == feed)) [
      | inl same ↦ absurd (other (eqb-true x feed same))
      | inr differs ↦ rw (differs, rest) refl
    ]

free : (xs : List ℕ) → All (λ x. x ≢ feed) xs → has_no_feed xs ≡ true
free [] each = refl
free (x ∷ xs) each = one_free x xs (each 0 0 (omega arith)) (free xs (λ k d inside. each (suc k) d (omega (arith, inside))))

-- all bytes were read where no LF was
all_through : (xs : List ℕ) → has_no_feed (take_through feed xs) ≡ true → take_through feed xs ≡ xs
all_through [] h = refl
all_through (x ∷ xs) h =
    elim (cases_Bool (x == feed)) [
      | inl same ↦ absurd (none same h)
      | inr differs ↦ rw differs (ap (λ l. x ∷ l) (all_through xs (more differs h)))
    ]
  where
    none : x == feed ≡ true → has_no_feed (take_through feed (x ∷ xs)) ≡ true → ⊥
    none same h = absurd cc

    more : x == feed ≡ false → has_no_feed (take_through feed (x ∷ xs)) ≡ true → has_no_feed (take_through feed xs) ≡ true
    more differs h = cc

-- the bytes before the last have no LF
pub front_free : (front : List ℕ) (last : ℕ) → StopsAt (front ++ last ∷ []) feed → has_no_feed front ≡ true
front_free front last stops =
    let count : length (front ++ last ∷ []) - 1 ≡ length front = omega (arith, length-append front (last ∷ [])) in
    free front (subst (All (λ x. x ≢ feed)) (ap (λ n. take n (front ++ last ∷ [])) count ∙ take-append_seam front (last ∷ [])) stops)

none_free : (xs : List ℕ) → length xs ≡ 0 → has_no_feed xs ≡ true
none_free [] none = refl
none_free (x ∷ xs) none = absurd (omega (arith, none))

-- nor has the last, where no LF ends the bytes
pub unended_free : (all : List ℕ) → StopsAt all feed → (length all ≡ 0) ⊎ ((front : List ℕ) × (last : ℕ) × (all ≡ front ++ last ∷ []) × (last ≢ feed)) → has_no_feed all ≡ true
unended_free all stops (inl none) = none_free all none
unended_free all stops (inr (front, last, are, other)) =
    let before = front_free front last (subst (λ l. StopsAt l feed) are stops) in
    ap has_no_feed are ∙ list_all-append _ front (last ∷ []) ∙ rw (before, one_free last [] other refl) refl

pub line_read : (had has : Option (List ℕ)) (all line : List ℕ) (number : ℕ) (r : Result Bool PlayError) → Consumes had has all → StopsAt all feed
    → IfSome had (λ xs. all ≡ take_through feed xs) → TakesFeed all line number r → ReadsLine had has line number r
line_read had has all line number (Ok true) read stops through is =
    (subst (Consumes had has) is read, front_free line feed (subst (λ l. StopsAt l feed) is stops))
line_read had has all line number (Err Read) read stops through is = (all, read, none_free all is)
line_read had has all line number (Err NoMemory) read stops through is = tt
line_read had has all line number (Err (BadLine n)) read stops through (number_is, same, (front, last, are, other)) =
    (number_is, whole had through, subst (λ l. has_no_feed l ≡ true) (sym same) single, omega (arith, ap length same, ap length are, length-append front (last ∷ [])))
  where
    single : has_no_feed all ≡ true
    single = unended_free all stops (inr (front, last, are, other))

    whole : (had : Option (List ℕ)) → IfSome had (λ xs. all ≡ take_through feed xs) → IsAll had line
    whole None through = tt
    whole (Some xs) through = sym (all_through xs (ap has_no_feed (sym through) ∙ single)) ∙ sym through ∙ sym same
line_read had has all line number _ read stops through is = absurd is

-- and where the reader failed
pub failed_read : (had has : Option (List ℕ)) (all line : List ℕ) (number : ℕ) (r : Result Bool PlayError) → Consumes had has all → StopsAt all feed → TakesWhole all line r → ReadsLine had has line number r
failed_read had has all line number (Ok true) read stops is = (subst (Consumes had has) is read, front_free line feed (subst (λ l. StopsAt l feed) is stops))
failed_read had has all line number (Err Read) read stops is = (all, read, unended_free all stops is)
failed_read had has all line number _ read stops is = absurd is

-- there is a line
pub one_line : (had has : Option (List ℕ)) (line : List ℕ) (number : ℕ) (b : Bool) → b ≡ true → ReadsLine had has line number (Ok b)
    → Consumes had has (line ++ feed ∷ []) × (has_no_feed line ≡ true)
one_line had has line number true h r = r
one_line had has line number false h r = absurd cc

-- none was read
pub unread_untaken : (processors : Option ℕ) (had has : Option (List ℕ)) (line : List ℕ) (number : ℕ) (e : PlayError) → ReadsLine had has line number (Err e) → TakesLine processors had has line number (Err e)
unread_untaken processors had has line number Read r = r
unread_untaken processors had has line number Write r = absurd r
unread_untaken processors had has line number NoMemory r = tt
unread_untaken processors had has line number (BadLine n) (is, all, single, some) = (is, inr (single, some, all))

-- what was read up to its LF is none of the format
pub refused_untaken : (processors : Option ℕ) (had has : Option (List ℕ)) (line bytes : List ℕ) (number : ℕ) (r : Result (Option Line) PlayError) → Consumes had has (line ++ feed ∷ []) → has_no_feed line ≡ true
    → None ≡ line_in processors line → Refuses line bytes number r → TakesLine processors had has bytes number r
refused_untaken processors had has line bytes number (Err NoMemory) read single none r = tt
refused_untaken processors had has line bytes number (Err (BadLine n)) read single none (is, back) =
    (is, inl (line, has, back, single, ap is_some (sym none), subst (Consumes had has) (sym back) read))
refused_untaken processors had has line bytes number _ read single none r = absurd r
