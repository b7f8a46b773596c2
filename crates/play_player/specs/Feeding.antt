-- SPDX-License-Identifier: MIT OR Apache-2.0
-- The steps of a play: bytes that are fed (`Feeding`, `StopsIn`), which `Player::feed` promises, and a line and bytes that are kept,
-- which private functions promise one another.
use Rattle.std.specs.Prelude.{◌≡◌, ◌≤◌, ℕ, ◌+◌, true, false, List, ◌∷◌, ◌++◌, length, Option, Some, Result, Ok, Err}
use Rattle.std.specs.Io.KnownBytes.{Appends, Keeps}
use Rattle.ffa_playable.specs.Bench.{Bench, processors_of}
use Rattle.play_trace.specs.TraceLines.{audit, feed, has_no_feed, is_good, joined, line_of}
use Rattle.play_trace.specs.TraceText.{text_of, after}
use Rattle.play_player.specs.Played.{Did, Began, DidAndBegan, most_lines}
use Rattle.play_trace.specs.declared.output.PlayError.{PlayError}
use Rattle.play_trace.specs.declared.output.PlayError.TheVariants.{Read, Write, NoMemory, BadLine}

-- What follows speaks of what is played on before and now (`start`, `now`), and of what the writer held and holds.

-- ONE LINE, of this number and these bytes

-- it was done, or it is none, or there is no memory for it: then nothing was done and nothing was written. No other
-- line than `audit` wants memory
abbrev pub LineDone : {X : Type 0} → Bench → Bench → Option (List ℕ) → Option (List ℕ) → ℕ → List ℕ → Result X PlayError
    → Type 0
LineDone start now held holds number line (Ok _) =
    (is_good (processors_of start) line ≡ true) × (now ≡ after start line) × Appends held holds (text_of start line)
LineDone start now held holds number line (Err Write) = Began start now held holds line
LineDone start now held holds number line (Err (BadLine n)) =
    (is_good (processors_of start) line ≡ false) × (n ≡ number) × (now ≡ start) × Keeps held holds
LineDone start now held holds number line (Err Read) = ⊥
LineDone start now held holds number line (Err NoMemory) =
    (line_of line ≡ Some audit) × (now ≡ start) × Keeps held holds

-- the same where memory was taken for its bytes before
abbrev pub LineEnded : {X : Type 0} → Bench → Bench → Option (List ℕ) → Option (List ℕ) → ℕ → List ℕ
    → Result X PlayError → Type 0
LineEnded start now held holds number line (Ok x) = LineDone start now held holds number line (Ok x)
LineEnded {X} start now held holds number line (Err Write) =
    LineDone {X = X} start now held holds number line (Err Write)
LineEnded {X} start now held holds number line (Err (BadLine n)) =
    LineDone {X = X} start now held holds number line (Err (BadLine n))
LineEnded start now held holds number line (Err Read) = ⊥
LineEnded start now held holds number line (Err NoMemory) = (now ≡ start) × Keeps held holds × (1 ≤ length line)

-- bytes were put behind those of a line that has begun, or there is no memory for them; no bytes need none
abbrev pub Kept : {X : Type 0} → List ℕ → List ℕ → List ℕ → Result X PlayError → Type 0
Kept old new bytes (Ok _) = new ≡ old ++ bytes
Kept old new bytes (Err NoMemory) = (new ≡ old) × (1 ≤ length bytes)
Kept old new bytes (Err Read) = ⊥
Kept old new bytes (Err Write) = ⊥
Kept old new bytes (Err (BadLine n)) = ⊥

-- BYTES OF LINES, of which the first has this number

-- the next line's number: it can be counted, but for the one behind the last, with which no line has begun
abbrev pub IsNumbered : ℕ → List ℕ → Type 0
IsNumbered number begun = (number ≤ 1 + most_lines) × (1 ≤ length begun → number ≤ most_lines)

-- whole lines, all done, and then `rest`, which begins the line of number `next`
pub record Feeding (start now : Bench) (held holds : Option (List ℕ)) (number next : ℕ) (bytes rest : List ℕ)
    : Type 0 where
  pub lines : List (List ℕ)
  pub did : Did start now held holds lines
  pub whole : bytes ≡ joined lines ++ rest
  pub unended : has_no_feed rest ≡ true
  pub counted : next ≡ number + length lines
  pub numbered : IsNumbered next rest

-- why no more is done: what can't be read, written, kept or understood, in the line behind those that were done
abbrev pub StopsIn : Bench → Bench → Option (List ℕ) → Option (List ℕ) → ℕ → List ℕ → PlayError → Type 0
StopsIn start now held holds number bytes Read = (lines : List (List ℕ)) × (more : List ℕ)
    × Did start now held holds lines × (bytes ≡ joined lines ++ more) × (number + length lines ≡ 1 + most_lines)
    × (1 ≤ length more)
StopsIn start now held holds number bytes NoMemory = (lines : List (List ℕ)) × (more : List ℕ)
    × Did start now held holds lines × (bytes ≡ joined lines ++ more) × (number + length lines ≤ most_lines)
    × (1 ≤ length more)
StopsIn start now held holds number bytes Write = (lines : List (List ℕ)) × (line : List ℕ) × (more : List ℕ)
    × DidAndBegan start now held holds lines line × (bytes ≡ joined lines ++ (line ++ feed ∷ more))
    × (number + length lines ≤ most_lines)
StopsIn start now held holds number bytes (BadLine n) = (lines : List (List ℕ)) × (bad : List ℕ) × (more : List ℕ)
    × Did start now held holds lines × (bytes ≡ joined lines ++ (bad ++ feed ∷ more))
    × (n ≡ number + length lines) × (n ≤ most_lines) × (has_no_feed bad ≡ true) × (is_good (processors_of start) bad ≡ false)

abbrev pub Fed : {X : Type 0} → Bench → Bench → Option (List ℕ) → Option (List ℕ) → ℕ → ℕ → List ℕ → List ℕ
    → Result X PlayError → Type 0
Fed start now held holds number next bytes rest (Ok _) = Feeding start now held holds number next bytes rest
Fed start now held holds number next bytes rest (Err e) = StopsIn start now held holds number bytes e
