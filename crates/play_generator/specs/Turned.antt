-- SPDX-License-Identifier: MIT OR Apache-2.0
-- FOR PROOFS ALONE
-- Which lines a turn has, and texts that grow by lines.
use Rattle.std.specs.Prelude.{◌≡◌, ℕ, true, List, [], ◌∷◌, ◌++◌, map, None, Some}
use Rattle.play_trace.specs.TraceLines.{Line, operate, show, audit, skip, line_of, are_lines, joined}
use Rattle.play_generator.specs.declared.entries.TraceEntry.{TraceEntry}
use Rattle.play_generator.specs.declared.entries.TraceEntry.TheVariants.{Operation, Attempt, Show, Audit}
use Rattle.play_generator.specs.Traces.{fitted}

-- the line of a trace that an entry is
abbrev pub meant : TraceEntry → Line
meant (Operation op) = operate (fitted op)
meant (Attempt attempt) = skip
meant Show = show
meant Audit = audit

-- the lines of a turn that gave these: one that does nothing, where there are none
abbrev pub turn_lines : List TraceEntry → List Line
turn_lines [] = skip ∷ []
turn_lines (entry ∷ entries) = map meant (entry ∷ entries)

-- a text grew by lines of a trace that are read as these, each with its LF
pub record GrowsByLines (meanings : List Line) (old new : List ℕ) : Type 0 where
  pub lines : List (List ℕ)
  pub good : are_lines None lines ≡ true
  pub read : map line_of lines ≡ map (λ line. Some line) meanings
  pub grown : new ≡ old ++ joined lines
