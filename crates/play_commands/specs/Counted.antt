-- SPDX-License-Identifier: MIT OR Apache-2.0
-- What is counted of a trace that is played: each operation, by what comes of it where it is done, and the check at which it is
-- refused there.
use Rattle.std.specs.Prelude.{◌≡◌, ℕ, true, List, [], ◌∷◌, Option, None, Result, Ok, Err, ⊤, unwrap_or}
use Rattle.std.specs.Option.{option_map_or}
use Rattle.ffa_model.specs.declared.operation.Outcome.TheVariants.{Done}
use Rattle.ffa_model.specs.declared.why.Why.{Why}
use Rattle.ffa_playable.specs.Bench.{Bench, effect_of, processors_of, why_of}
use Rattle.play_trace.specs.Lines.{outcome_in}
use Rattle.play_trace.specs.TraceLines.{Line, operate, are_lines, joined, line_in}
use Rattle.play_trace.specs.TraceText.{after}
use Rattle.play_trace.specs.declared.output.PlayError.{PlayError}
use Rattle.play_trace.specs.declared.output.PlayError.TheVariants.{Read, Write, NoMemory, BadLine}
use Rattle.play_player.specs.Reading.{IsAll}
use Rattle.play_generator.specs.Counting.{Tally, count_one}
use Rattle.play_generator.specs.declared.counts.Counts.{Counts}
use Rattle.play_commands.specs.Plays.{BeganWith, EndsBadly}

abbrev pub tally_of : Counts → Tally
tally_of counts = record { cells = counts.cells; checks = counts.checks }

-- why a line is refused there, if it is an operation that is
abbrev pub why_in : Bench → Line → Option Why
why_in b (operate op) = why_of b op
why_in b other = None

-- what a line counts there: an operation as `generate` counts it, where what lets a preempted partition go on is done
abbrev pub line_counted : Bench → Line → Tally → Tally
line_counted b (operate op) t = count_one op (unwrap_or (outcome_in (effect_of b op)) Done) (why_of b op) t
line_counted b other t = t

-- the same of the bytes of a line
unfoldable pub counted_of : Bench → List ℕ → Tally → Tally
counted_of b bytes t = option_map_or (λ line. line_counted b line t) (line_in (processors_of b) bytes) t

-- what lines count one after another
abbrev pub counted : Bench → List (List ℕ) → Tally → Tally
counted b [] t = t
counted b (line ∷ lines) t = counted (after b line) lines (counted_of b line t)

-- A trace was played from a start to its end, and all its lines were counted; or up to a bad line, of which this is the number; or
-- as far as could be read. Of what is counted where there is no memory nothing is said.
abbrev pub CountsTrace : Bench → (trace : Option (List ℕ)) → Tally → Tally → Result (Unit {0}) PlayError → Type 0
CountsTrace start trace old new (Ok done) =
    (lines : List (List ℕ)) × (are_lines (processors_of start) lines ≡ true) × IsAll trace (joined lines)
    × (new ≡ counted start lines old)
CountsTrace start trace old new (Err (BadLine n)) =
    (lines : List (List ℕ)) × EndsBadly (processors_of start) trace lines n × (new ≡ counted start lines old)
CountsTrace start trace old new (Err Read) =
    (lines : List (List ℕ)) × BeganWith (processors_of start) trace lines × (new ≡ counted start lines old)
CountsTrace start trace old new (Err Write) = ⊥
CountsTrace start trace old new (Err NoMemory) = ⊤
