-- SPDX-License-Identifier: MIT OR Apache-2.0
-- A trace, written with the guards of its own play.
use Rattle.std.specs.Prelude.{◌≡◌, ℕ, true, List, [], ◌∷◌, ◌++◌, codes, map, Option, Result, if◌then◌else◌}
use Rattle.ffa_playable.specs.Bench.{Bench, processors_of}
use Rattle.play_trace.specs.TraceLines.{are_lines, joined}
use Rattle.play_trace.specs.TraceText.{after, after_all, text, text_of}
use Rattle.play_trace.specs.declared.output.PlayError.{PlayError}
use Rattle.play_player.specs.Guards.{AreMet, is_guard, lines_in}
use Rattle.play_player.specs.Listening.{WritesEach}

-- WHAT IS WRITTEN

-- a printed line, as a guard
abbrev pub guard_for : List ℕ → List ℕ
guard_for printed = codes "#= " ++ printed

-- a line that printed this: as it stands, with a guard for each line, or nothing, where it is a guard
abbrev pub line_recorded : List ℕ → List ℕ → List (List ℕ)
line_recorded line printed = if is_guard line then [] else line ∷ map guard_for (lines_in printed)

-- the lines that are written of these lines
abbrev pub recorded : Bench → List (List ℕ) → List (List ℕ)
recorded s [] = []
recorded s (line ∷ lines) = line_recorded line (text_of s line) ++ recorded (after s line) lines

-- what is written is lines that play as these do: they print the same and leave all the same, and their guards are
-- met
pub record Replays (start : Bench) (lines : List (List ℕ)) : Type 0 where
  pub each : are_lines (processors_of start) (recorded start lines) ≡ true
  pub prints : text start (recorded start lines) ≡ text start lines
  pub leaves : after_all start (recorded start lines) ≡ after_all start lines
  pub met : AreMet start (recorded start lines)

-- Each of these lines was written with its guards, and what was written plays as these lines do.
abbrev pub RecordsLines : {Stop : Type 0} → Bench → List (List ℕ) → (held holds : Option (List ℕ))
    → Result (Option Stop) PlayError → Type 0
RecordsLines start lines held holds result =
    WritesEach (λ all. joined (recorded start all)) lines held holds result × Replays start lines
