-- SPDX-License-Identifier: MIT OR Apache-2.0
-- How a trace is played to a listener: each of its lines is read and done, and then the listener hears it.
use Rattle.std.specs.Prelude.{◌≡◌, ◌≤◌, ℕ, ◌+◌, ◌-◌, ◌^◌, true, List, [], ◌∷◌, ◌++◌, length, Option, None, Some, Result, Ok, Err, ⊤}
use Rattle.std.specs.Io.KnownBytes.{Appends, Consumes, IsAtEnd}
use Rattle.ffa_playable.specs.Bench.{Bench, processors_of}
use Rattle.play_trace.specs.Lines.{meant, outcome_of}
use Rattle.play_trace.specs.Output.{TookFront}
use Rattle.play_trace.specs.TraceLines.{are_lines, has_no_feed, joined, line_in}
use Rattle.play_trace.specs.TraceText.{after_all, line_after, line_text}
use Rattle.play_trace.specs.declared.output.PlayError.{PlayError}
use Rattle.play_trace.specs.declared.output.PlayError.TheVariants.{Read, Write, NoMemory, BadLine}
use Rattle.play_player.specs.Reading.{IsBadLine, ReadsNoLine}
use Rattle.play_player.specs.declared.listening.Event.{Event}

-- THE LINES

-- These lines were read and done. The machine went from `start` to `now`, and the reader from `had` to `has`.
pub record AreDone (start now : Bench) (had has : Option (List ℕ)) (lines : List (List ℕ)) : Type 0 where
  pub each : are_lines (processors_of start) lines ≡ true
  pub read : Consumes had has (joined lines)
  pub state : now ≡ after_all start lines

-- A line was done after these lines, and the event says so. The next line will have a number too.
pub record IsDoneAfter (start now : Bench) (lines : List (List ℕ)) (event : Event) : Type 0 where
  pub each : are_lines (processors_of start) lines ≡ true
  pub single : has_no_feed event.bytes.now ≡ true
  pub line : Some (meant event.line) ≡ line_in (processors_of start) event.bytes.now
  pub number : event.number ≡ 1 + length lines
  pub fits : event.number + 1 ≤ 2 ^ 64 - 1
  pub state : now ≡ line_after (after_all start lines) (meant event.line)
  pub text : event.text.now ≡ line_text (after_all start lines) (meant event.line)
  pub outcome : event.outcome ≡ outcome_of (after_all start lines) (meant event.line)

-- A LISTENER

-- What a listener says of the lines that it heard: from this start, by what it was and is, and by what the writer held and
-- holds. It goes on (`Ok None`), or it stops at the last of these lines, or it can't write what it has to say of that line.
abbrev pub Heard : Type 0 → Type 0 → Type 1
Heard L Stop = Bench → List (List ℕ) → L → L → Option (List ℕ) → Option (List ℕ) → Result (Option Stop) PlayError → Type 0

-- A listener answers so, for which there may be no memory. It reads no trace.
abbrev pub Answers : {Stop : Type 0} → (Result (Option Stop) PlayError → Type 0) → Result (Option Stop) PlayError → Type 0
Answers heard (Ok stop) = heard (Ok stop)
Answers heard (Err Write) = heard (Err Write)
Answers heard (Err NoMemory) = ⊤
Answers heard (Err Read) = ⊥
Answers heard (Err (BadLine n)) = ⊥

-- A listener heard a line. Whatever lines it heard before, it has heard this one after them.
abbrev pub HearsLine : {L Stop : Type 0} → Heard L Stop → Bench → Event → L → L → (held holds : Option (List ℕ))
    → Result (Option Stop) PlayError → Type 0
HearsLine heard now event old new held holds result =
    (start : Bench) (lines : List (List ℕ)) (first : _) (began : Option (List ℕ)) → IsDoneAfter start now lines event
    → heard start lines first old began held (Ok None)
    → Answers (heard start (lines ++ event.bytes.now ∷ []) first new began holds) result

-- A text was written of each of these lines. `text` is the text of lines. Or the text of all lines but the last was written,
-- and a beginning of the last line's text.
abbrev pub WritesEach : {Stop : Type 0} → (List (List ℕ) → List ℕ) → List (List ℕ) → (held holds : Option (List ℕ))
    → Result (Option Stop) PlayError → Type 0
WritesEach text lines held holds (Ok None) = Appends held holds (text lines)
WritesEach text lines held holds (Ok (Some stop)) = ⊥
WritesEach text lines held holds (Err Write) =
    (front : List (List ℕ)) × (last own : List ℕ) × (between : Option (List ℕ)) × (lines ≡ front ++ last ∷ [])
    × (text lines ≡ text front ++ own) × Appends held between (text front) × TookFront between holds own
WritesEach text lines held holds (Err other) = ⊥

-- A PLAY

-- A trace was played to a listener. The play came to the end of the trace, or the listener stopped it, or it came to a bad
-- line, or the trace can't be read further, or the listener can't write. In each case all lines before were done and
-- heard, and no other line. Nothing is said of a play for which there is no memory.
abbrev pub PlaysTo : {L Stop : Type 0} → Heard L Stop → Bench → Bench → (had has : Option (List ℕ)) → List ℕ → L → L
    → (held holds : Option (List ℕ)) → Result (Option Stop) PlayError → Type 0
PlaysTo heard start now had has bytes old new held holds (Ok None) =
    (left : Option (List ℕ)) × (lines : List (List ℕ)) × AreDone start now had left lines × IsAtEnd left
    × heard start lines old new held holds (Ok None)
PlaysTo heard start now had has bytes old new held holds (Ok (Some stop)) =
    (lines : List (List ℕ)) × AreDone start now had has (lines ++ bytes ∷ [])
    × heard start (lines ++ bytes ∷ []) old new held holds (Ok (Some stop))
PlaysTo heard start now had has bytes old new held holds (Err (BadLine n)) =
    (left : Option (List ℕ)) × (lines : List (List ℕ)) × AreDone start now had left lines
    × (n ≡ 1 + length lines) × IsBadLine (processors_of start) left bytes × heard start lines old new held holds (Ok None)
PlaysTo heard start now had has bytes old new held holds (Err Read) =
    (left : Option (List ℕ)) × (lines : List (List ℕ)) × AreDone start now had left lines × ReadsNoLine left has
    × heard start lines old new held holds (Ok None)
PlaysTo heard start now had has bytes old new held holds (Err Write) =
    (lines : List (List ℕ)) × AreDone start now had has (lines ++ bytes ∷ [])
    × heard start (lines ++ bytes ∷ []) old new held holds (Err Write)
PlaysTo heard start now had has bytes old new held holds (Err NoMemory) = ⊤
