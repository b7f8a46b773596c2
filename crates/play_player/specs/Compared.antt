-- SPDX-License-Identifier: MIT OR Apache-2.0
-- What a comparison says of the lines whose text is compared with an expected text.
use Rattle.std.specs.Prelude.{◌≡◌, ◌≢◌, ◌≤◌, ℕ, ◌+◌, true, false, List, [], ◌∷◌, ◌++◌, length, Option, None, Some, IfSome, Result, Ok, Err, ⊤}
use Rattle.std.specs.Io.BufRead.{take_through}
use Rattle.std.specs.Io.KnownBytes.{Consumes}
use Rattle.std.specs.List.{list_all}
use Rattle.ffa_playable.specs.Bench.{Bench, processors_of}
use Rattle.play_trace.specs.TraceLines.{feed, has_no_feed, are_lines, joined}
use Rattle.play_trace.specs.TraceText.{after_all}
use Rattle.play_trace.specs.declared.output.PlayError.{PlayError}
use Rattle.play_trace.specs.declared.output.PlayError.TheVariants.{Read, Write, NoMemory, BadLine}
use Rattle.play_reasons.specs.Reasons.{reason_of_bytes, told_line}
use Rattle.play_player.specs.declared.comparison.ComparisonStop.{ComparisonStop}
use Rattle.play_player.specs.declared.comparison.ComparisonStop.TheVariants.{Differs, Unreadable}
use Rattle.play_player.specs.declared.comparison.Mismatch.{Mismatch}
use Rattle.play_player.specs.declared.form.Form.{Form}
use Rattle.play_player.specs.Forms.{text_in, text_of_in}
use Rattle.play_player.specs.Reading.{ReadsNoLine}

-- numbers, names and short words are compared where they are asked for, and reasons never
abbrev pub unexplained : Form → Form
unexplained form = record { number = form.number; names = form.names; explain = false; short = form.short }

-- the next of these lines with its LF, or nothing where none is left
abbrev pub next_row : List (List ℕ) → List ℕ
next_row [] = []
next_row (row ∷ rows) = row ++ feed ∷ []

-- What follows speaks of what was unread of the expected text before the first of the lines, and is now (`wants`, `unread`),
-- and of how many of its rows were read before, and by now (`read`, `now`). `said` is the text of the last line, and `wanted`
-- what was read last of the expected text.

-- A text was read of what is expected. These are its rows.
pub record IsFound (wants unread : Option (List ℕ)) (read now : ℕ) (text : List ℕ) : Type 0 where
  pub rows : List (List ℕ)
  pub whole : text ≡ joined rows
  pub each : list_all has_no_feed rows ≡ true
  pub alike : Consumes wants unread (joined rows)
  pub count : now ≡ read + length rows

-- The first rows of a text begin what is expected. The next row of the expected text is `wanted`, and is another than the
-- next of those behind.
pub record PartsFrom (wants : Option (List ℕ)) (text wanted : List ℕ) : Type 0 where
  pub rows : List (List ℕ)
  pub behind : List (List ℕ)
  pub more : Option (List ℕ)
  pub whole : text ≡ joined (rows ++ behind)
  pub each : list_all has_no_feed (rows ++ behind) ≡ true
  pub alike : Consumes wants more (joined rows)
  pub next : IfSome more (λ rest. wanted ≡ take_through feed rest)
  pub other : wanted ≢ next_row behind

-- The text of these lines parts from what is expected in the last line's text. The mismatch says where, and why the
-- operation of that line is refused, if the form asks for it.
pub record DiffersInLast (form : Form) (start : Bench) (lines : List (List ℕ)) (wants : Option (List ℕ)) (read : ℕ)
    (said : Option (List ℕ)) (wanted : List ℕ) (mismatch : Mismatch) : Type 0 where
  pub before : List (List ℕ)
  pub last : List ℕ
  pub are : lines ≡ before ++ last ∷ []
  pub own : said ≡ Some (text_of_in (unexplained form) (1 + length before) (after_all start before) last)
  pub parts : PartsFrom wants (text_in (unexplained form) 1 start lines) wanted
  pub some : 1 ≤ length parts.behind
  pub number : mismatch.number ≡ length lines
  pub expected_line : mismatch.expected_line ≡ 1 + (read + length parts.rows)
  pub place : length (text_in (unexplained form) 1 start before) + mismatch.place ≡ length (joined parts.rows)
  pub reason : told_line mismatch.reason ≡ reason_of_bytes form.explain (after_all start before) last

-- of the text of these lines this was found: the text of all but the last one, and a front of the last one's text, of
-- which a rest is left
pub record StopsInLast (form : Form) (start : Bench) (lines : List (List ℕ)) (found : List ℕ) : Type 0 where
  pub before : List (List ℕ)
  pub last : List ℕ
  pub front : List ℕ
  pub rest : List ℕ
  pub are : lines ≡ before ++ last ∷ []
  pub own : text_of_in form (1 + length before) (after_all start before) last ≡ front ++ rest
  pub some : 1 ≤ length rest
  pub whole : found ≡ text_in form 1 start before ++ front

-- The expected text could be read no further. It begins with what was found of the text of these lines, and then no row was
-- read whole.
abbrev pub FailsToMatch : Form → Bench → List (List ℕ) → (wants unread : Option (List ℕ)) → Type 0
FailsToMatch form start lines wants unread =
    (found : List ℕ) × (more : Option (List ℕ)) × Consumes wants more found × ReadsNoLine more unread
    × StopsInLast form start lines found

-- A comparison heard these lines: their whole text was read of what is expected, or the last line's text differs, or the
-- expected text could be read no further.
abbrev pub ComparesLines : Form → Bench → List (List ℕ) → (wants unread : Option (List ℕ)) → (read now : ℕ)
    → (said : Option (List ℕ)) → (wanted : List ℕ) → Result (Option ComparisonStop) PlayError → Type 0
ComparesLines form start lines wants unread read now said wanted (Ok None) =
    IsFound wants unread read now (text_in (unexplained form) 1 start lines)
ComparesLines form start lines wants unread read now said wanted (Ok (Some (Differs mismatch))) =
    DiffersInLast form start lines wants read said wanted mismatch
ComparesLines form start lines wants unread read now said wanted (Ok (Some Unreadable)) =
    FailsToMatch (unexplained form) start lines wants unread
ComparesLines form start lines wants unread read now said wanted (Err error) = ⊥

-- A comparison ended after the last line of a trace: nothing is left of what is expected, or a row is, or it could be read no
-- further. The next line would have the number `next`.
abbrev pub ComparesEnd : (wants unread : Option (List ℕ)) → (read next : ℕ) → (said : Option (List ℕ)) → (wanted : List ℕ)
    → Result (Option ComparisonStop) PlayError → Type 0
ComparesEnd wants unread read next said wanted (Ok None) = IfSome wants (λ bytes. bytes ≡ [])
ComparesEnd wants unread read next said wanted (Ok (Some (Differs mismatch))) =
    IfSome wants (λ bytes. wanted ≡ take_through feed bytes) × (1 ≤ length wanted) × (said ≡ Some [])
    × (mismatch ≡ record { number = next; expected_line = 1 + read; place = 0; reason = None })
ComparesEnd wants unread read next said wanted (Ok (Some Unreadable)) = ReadsNoLine wants unread
ComparesEnd wants unread read next said wanted (Err NoMemory) = ⊤
ComparesEnd wants unread read next said wanted (Err Read) = ⊥
ComparesEnd wants unread read next said wanted (Err Write) = ⊥
ComparesEnd wants unread read next said wanted (Err (BadLine n)) = ⊥

-- of all lines that a reader of known bytes can give, none print what is expected
abbrev pub NeverPrints : Form → Bench → (had wants : Option (List ℕ)) → Type 0
NeverPrints form start None wants = ⊤
NeverPrints form start (Some trace) None = ⊤
NeverPrints form start (Some trace) (Some expected) =
    (lines : List (List ℕ)) → are_lines (processors_of start) lines ≡ true → trace ≡ joined lines
    → text_in form 1 start lines ≢ expected
