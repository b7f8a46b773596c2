-- SPDX-License-Identifier: MIT OR Apache-2.0
-- What a comparison leaves, for the one who asked for it.
use Rattle.std.proofs.Common.{◌≡◌, ◌+◌, ◌≤◌, Bor, true, List, [], ◌∷◌, ◌++◌, ℕ, Option, None, Some, IfSome, Ok, Err, Result, inl, inr, refl, ap, sym, subst, append-nil, arith, length}
use Rattle.std.specs.Io.BufRead.{take_through}
use Rattle.std.specs.Io.KnownBytes.{Consumes, Keeps}
use Rattle.std.proofs.KnownBytes.{Keeps-refl}
use Rattle.ffa_playable.specs.Bench.{Bench, processors_of}
use Rattle.play_trace.specs.TraceLines.{are_lines, feed, joined}
use Rattle.play_trace.specs.declared.output.PlayError.{PlayError}
use Rattle.play_player.specs.Compared.{ComparesLines, IsFound, NeverPrints, unexplained}
use Rattle.play_player.specs.Forms.{text_in}
use Rattle.play_player.specs.Listening.{Heard}
use Rattle.play_player.specs.Reading.{IsAll, ReadsNoLine}
use Rattle.play_player.specs.declared.comparison.Comparer.{Comparer}
use Rattle.play_player.specs.declared.comparison.ComparisonStop.{ComparisonStop}
use Rattle.play_player.specs.declared.comparison.ComparisonStop.TheVariants.{Differs as DiffersThere, Unreadable}
use Rattle.play_player.specs.declared.comparison.Mismatch.{Mismatch}
use Rattle.play_player.specs.declared.form.Form.{Form}
use Rattle.play_player.proofs.Compares.{found_all, found_none, parts_at_end}
use Rattle.play_player.proofs.Unequal.{never_prints}
use Rattle.play_report.specs.Failures.{IsDifference}
use Rattle.play_report.specs.declared.failure.Failure.{Failure}
use Rattle.play_report.specs.declared.failure.Failure.TheVariants.{BadLine, Read, Write, NoMemory, Differs}
use Rattle.play_commands.specs.Plays.{BeganWith, BeginsExpected, IsDoneBy, PlayFails, PlaysTrace, Streams}
use Rattle.play_commands.specs.declared.task.Expected.{Expected}
use Rattle.play_commands.specs.declared.task.Task.TheVariants.{Compare}

-- where a difference was found
pub differing : (form : Form) (start : Bench) (streams : Streams) (expected : Expected (Option (List ℕ))) (path : Bor (List ℕ)) → NeverPrints (unexplained form) start streams.trace expected.reader
    → (failure : Failure) → IsDifference failure → PlayFails (Compare expected form) path start streams failure
differing form start streams expected path never_prints Differs any = never_prints
differing form start streams expected path never_prints Write any = tt
differing form start streams expected path never_prints NoMemory any = tt
differing form start streams expected path never_prints _ never = absurd never

-- a trace began with all of its lines, and with some of them
began : (start : Bench) (trace : Option (List ℕ)) (lines : List (List ℕ)) (rest : List ℕ) → are_lines (processors_of start) lines ≡ true → IsAll trace (joined lines ++ rest)
    → BeganWith (processors_of start) trace lines
began start None lines rest each all = (each, (None, tt))
began start (Some bytes) lines rest each all = (each, (Some rest, all))

-- what a comparer says, by what is known of the reader of the expected text
abbrev pub hearing : {R A : Type 0} → (R → Option (List ℕ)) → Heard (Comparer R A) ComparisonStop
hearing remaining start lines old new held holds result =
    ComparesLines old.form start lines (remaining old.rows.reader) (remaining new.rows.reader) old.rows.read new.rows.read new.text new.rows.row.items result
    × (new.form ≡ old.form) × (new.next ≡ 1 + length lines) × Keeps held holds

pub hears_none : {R A : Type 0} (remaining : R → Option (List ℕ)) (start : Bench) (comparer : Comparer R A) (held : Option (List ℕ)) → comparer.next ≡ 1 → hearing remaining start [] comparer comparer held held (Ok None)
hears_none remaining start comparer held next = (found_none (remaining comparer.rows.reader) comparer.rows.read, refl, next, Keeps-refl held)

-- A trace was played to a comparer, which began so.
module _ {R A : Type 0} (remaining : R → Option (List ℕ)) (form : Form) (start : Bench) (streams : Streams) (expected : Expected (Option (List ℕ))) (line : List ℕ) (old new : Comparer R A) (path : Bor (List ℕ)) (form_is : old.form ≡ form) (wants_is : remaining old.rows.reader ≡ expected.reader) where
  abbrev unread : Option (List ℕ)
  unread = remaining new.rows.reader

  hears : (lines : List (List ℕ)) (result : Result (Option ComparisonStop) PlayError) → hearing remaining start lines old new streams.held streams.holds result
      → ComparesLines form start lines expected.reader unread old.rows.read new.rows.read new.text new.rows.row.items result × Keeps streams.held streams.holds
  hears lines result said = (
    subst (λ form. ComparesLines form start lines expected.reader unread old.rows.read new.rows.read new.text new.rows.row.items result) form_is
        (subst (λ wants. ComparesLines old.form start lines wants unread old.rows.read new.rows.read new.text new.rows.row.items result) wants_is said.0),
    said.3,
  )

  begins : (lines : List (List ℕ)) → IsFound expected.reader unread old.rows.read new.rows.read (text_in (unexplained form) 1 start lines) → BeginsExpected (unexplained form) start expected.reader lines
  begins lines found = (unread, subst (Consumes expected.reader unread) (sym found.whole) found.alike)

  pub compared_failed : (failure : Failure) → PlaysTrace (hearing remaining) path start streams line old new (Err failure) → PlayFails (Compare expected form) path start streams failure
  compared_failed (BadLine n fault) (lines, ends, all) =
      let own = hears lines (Ok None) all in
      ((lines, ends, begins lines own.0), own.1)
  compared_failed (Read named) (lines, began, all, is) =
      let own = hears lines (Ok None) all in
      inl (((lines, began, begins lines own.0), own.1), is)
  compared_failed Write p = tt
  compared_failed NoMemory p = tt
  compared_failed _ p = absurd p

  -- a line's text differs, or what is expected can't be read
  pub compared_differs : (mismatch : Mismatch) → PlaysTrace (hearing remaining) path start streams line old new (Ok (Some (DiffersThere mismatch))) → NeverPrints (unexplained form) start streams.trace expected.reader
  compared_differs mismatch (lines, rest, each, all, stopped) =
      let own = (hears (lines ++ line ∷ []) (Ok (Some (DiffersThere mismatch))) stopped).0 in
      never_prints (unexplained form) start streams.trace expected.reader (lines ++ line ∷ []) rest new.rows.row.items each all own.parts (λ none. absurd (omega (arith, ap length none, own.some)))

  pub compared_unmatched : PlaysTrace (hearing remaining) path start streams line old new (Ok (Some Unreadable)) → PlayFails (Compare expected form) path start streams (Read expected.path)
  compared_unmatched (lines, rest, each, all, stopped) =
      let own = hears (lines ++ line ∷ []) (Ok (Some Unreadable)) stopped in
      let fails = own.0 in
      inr ((lines ++ line ∷ [], began start streams.trace (lines ++ line ∷ []) rest each all, (fails.0, fails.1, fails.2, inr fails.4)), own.1, refl)

  -- after the last line nothing is left of what is expected, or a row is, or that can't be read
  pub ended_whole : PlaysTrace (hearing remaining) path start streams line old new (Ok None) → IfSome unread (λ bytes. bytes ≡ []) → IsDoneBy (Compare expected form) start streams
  ended_whole (lines, each, all, ended) over =
      let own = hears lines (Ok None) ended in
      (record { lines = lines; each = each; all = all; same = found_all expected.reader unread old.rows.read new.rows.read (text_in (unexplained form) 1 start lines) own.0 over }, own.1)

  pub ended_differs : PlaysTrace (hearing remaining) path start streams line old new (Ok None) → (row : List ℕ) → IfSome unread (λ bytes. row ≡ take_through feed bytes) → 1 ≤ length row
      → NeverPrints (unexplained form) start streams.trace expected.reader
  ended_differs (lines, each, all, ended) row next some =
      let own = (hears lines (Ok None) ended).0 in
      never_prints (unexplained form) start streams.trace expected.reader lines [] row each (subst (IsAll streams.trace) (sym (append-nil (joined lines))) all)
      (parts_at_end expected.reader unread old.rows.read new.rows.read (text_in (unexplained form) 1 start lines) row own next some) (λ none. refl)

  pub ended_unmatched : PlaysTrace (hearing remaining) path start streams line old new (Ok None) → (has : Option (List ℕ)) → ReadsNoLine unread has → PlayFails (Compare expected form) path start streams (Read expected.path)
  ended_unmatched (lines, each, all, ended) has unended =
      let own = hears lines (Ok None) ended in
      let text = text_in (unexplained form) 1 start lines in
      let from = began start streams.trace lines [] each (subst (IsAll streams.trace) (sym (append-nil (joined lines))) all) in
      inr ((lines, from, (text, unread, subst (Consumes expected.reader unread) (sym own.0.whole) own.0.alike, inl (all, refl))), own.1, refl)
