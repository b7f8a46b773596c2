-- SPDX-License-Identifier: MIT OR Apache-2.0
-- What a play leaves, in what it plays on and in the writer, for each answer.
use Rattle.std.specs.Prelude.{◌≡◌, ◌≤◌, ◌<◌, ◌⊎◌, ℕ, ◌+◌, ◌-◌, ◌^◌, true, false, List, [], ◌∷◌, ◌++◌, length, Option, Result, Ok, Err}
use Rattle.std.specs.Io.KnownBytes.{Appends, Consumes, IsAtEnd}
use Rattle.ffa_playable.specs.Bench.{Bench, processors_of}
use Rattle.play_trace.specs.TraceLines.{feed, has_no_feed, is_good, are_lines, joined}
use Rattle.play_trace.specs.TraceText.{text, text_of, after, after_all}
use Rattle.play_trace.specs.Output.{TookFront}
use Rattle.play_trace.specs.declared.output.PlayError.{PlayError}
use Rattle.play_trace.specs.declared.output.PlayError.TheVariants.{Read, Write, NoMemory, BadLine}

-- What follows speaks of how what is played on stands before and after, of what was written to the writer before and
-- after, and of what was unread in the reader before and after.

-- these lines were done, and all their text was written
pub record Did (state_before state_after : Bench) (written_before written_after : Option (List ℕ))
    (lines : List (List ℕ)) : Type 0 where
  pub each : are_lines (processors_of state_before) lines ≡ true
  pub state : state_after ≡ after_all state_before lines
  pub written : Appends written_before written_after (text state_before lines)

-- a line was done, and the writer took a beginning of its text
pub record Began (state_before state_after : Bench) (written_before written_after : Option (List ℕ)) (line : List ℕ)
    : Type 0 where
  pub good : is_good (processors_of state_before) line ≡ true
  pub state : state_after ≡ after state_before line
  pub written : TookFront written_before written_after (text_of state_before line)

-- these lines were done and all their text was written, and then one whose text wasn't written whole
pub record DidAndBegan (state_before state_after : Bench) (written_before written_after : Option (List ℕ))
    (lines : List (List ℕ)) (line : List ℕ) : Type 0 where
  pub state_between : Bench
  pub written_between : Option (List ℕ)
  pub did : Did state_before state_between written_before written_between lines
  pub whole : has_no_feed line ≡ true
  pub began : Began state_between state_after written_between written_after line

-- so many lines a play can count
abbrev pub most_lines : ℕ
most_lines = 2 ^ 64 - 2

-- a play, by its answer
abbrev pub Played : {X : Type 0} → (state_before state_after : Bench)
    → (written_before written_after unread_before unread_after : Option (List ℕ)) → Result X PlayError → Type 0
-- the reader was read to its end, and what it gave are these lines, no more than can be counted
Played state_before state_after written_before written_after unread_before unread_after (Ok _) =
    (lines : List (List ℕ))
    × Did state_before state_after written_before written_after lines
    × Consumes unread_before unread_after (joined lines) × IsAtEnd unread_after
    × (length lines ≤ most_lines)
-- each line that was read whole was done, unless there is more behind as many lines as can be counted
Played state_before state_after written_before written_after unread_before unread_after (Err Read) =
    (lines : List (List ℕ)) × (more : List ℕ)
    × Did state_before state_after written_before written_after lines
    × Consumes unread_before unread_after (joined lines ++ more)
    × (length lines ≤ most_lines)
    × ((has_no_feed more ≡ true) ⊎ ((length lines ≡ most_lines) × (1 ≤ length more)))
-- memory is refused for the line behind those that were done, which can be counted, and never before a byte of it
Played state_before state_after written_before written_after unread_before unread_after (Err NoMemory) =
    (lines : List (List ℕ)) × (more : List ℕ)
    × Did state_before state_after written_before written_after lines
    × Consumes unread_before unread_after (joined lines ++ more)
    × (length lines < most_lines) × (1 ≤ length more)
-- the line after those done was done too, and its text wasn't written whole
Played state_before state_after written_before written_after unread_before unread_after (Err Write) =
    (lines : List (List ℕ)) × (line : List ℕ) × (more : List ℕ)
    × DidAndBegan state_before state_after written_before written_after lines line
    × Consumes unread_before unread_after (joined lines ++ (line ++ feed ∷ more))
    × (length lines < most_lines)
-- the line after those done has no meaning, or has no LF at the reader's end
Played state_before state_after written_before written_after unread_before unread_after (Err (BadLine n)) =
    (lines : List (List ℕ)) × (bad : List ℕ) × (more : List ℕ)
    × Did state_before state_after written_before written_after lines
    × Consumes unread_before unread_after (joined lines ++ (bad ++ more))
    × (n ≡ 1 + length lines) × (n ≤ most_lines) × (has_no_feed bad ≡ true)
    × ((((next : List ℕ) × (more ≡ feed ∷ next)) × (is_good (processors_of state_before) bad ≡ false))
    ⊎ ((more ≡ []) × (1 ≤ length bad) × IsAtEnd unread_after))
