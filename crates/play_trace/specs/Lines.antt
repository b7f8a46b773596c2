-- SPDX-License-Identifier: MIT OR Apache-2.0
-- A line by itself, and what answering it leaves.
use Rattle.std.specs.Prelude.{◌≡◌, List, ℕ, Option, Some, None, Result, Ok, Err}
use Rattle.std.specs.Io.KnownBytes.{Appends, Keeps}
use Rattle.ffa_model.specs.declared.operation.Effect.{Effect}
use Rattle.ffa_model.specs.declared.operation.Effect.TheVariants as effects
use Rattle.ffa_playable.specs.Bench.{Bench, effect_of, outcome_of_interrupt}
use Rattle.play_trace.specs.TraceLines as trace
use Rattle.play_trace.specs.TraceText.{line_text, line_after}
use Rattle.ffa_model.specs.declared.operation.Outcome.{Outcome}
use Rattle.play_trace.specs.Output.{TookFront}
use Rattle.play_trace.specs.declared.lines.Line.{Line}
use Rattle.play_trace.specs.declared.lines.Line.TheVariants.{Operation, Show, Audit, Nothing, Turn, Interrupt}
use Rattle.play_trace.specs.declared.output.PlayError.{PlayError}
use Rattle.play_trace.specs.declared.output.PlayError.TheVariants.{Read, Write, NoMemory, BadLine}

-- the line of the definitions that this is
abbrev pub meant : Line → trace.Line
meant (Operation op) = trace.operate op
meant Show = trace.show
meant Audit = trace.audit
meant Nothing = trace.skip
meant (Turn processor) = trace.turn processor
meant Interrupt = trace.interrupt

-- who goes on with registers of its own sees none of an outcome
abbrev pub outcome_in : Effect → Option Outcome
outcome_in (effects.Outcome outcome) = Some outcome
outcome_in (effects.Resumed e) = None

-- what comes of the operation that a line is, or of an interrupt
abbrev pub outcome_of : Bench → trace.Line → Option Outcome
outcome_of b (trace.operate op) = outcome_in (effect_of b op)
outcome_of b trace.show = None
outcome_of b trace.audit = None
outcome_of b trace.skip = None
outcome_of b (trace.turn processor) = None
outcome_of b trace.interrupt = Some (outcome_of_interrupt b)

-- What follows speaks of what is played on before and now (`start`, `now`), and of what the writer held and holds. A
-- line was done and its text was written, or a beginning of it; or there is no memory for it, and nothing was done and
-- nothing written. No other line than `audit` wants memory.
abbrev pub Answered : Bench → Bench → Option (List ℕ) → Option (List ℕ) → trace.Line → Result (Option Outcome) PlayError
    → Type 0
Answered start now held holds line (Ok outcome) =
    (now ≡ line_after start line) × Appends held holds (line_text start line) × (outcome ≡ outcome_of start line)
Answered start now held holds line (Err Write) =
    (now ≡ line_after start line) × TookFront held holds (line_text start line)
Answered start now held holds line (Err NoMemory) = (line ≡ trace.audit) × (now ≡ start) × Keeps held holds
Answered start now held holds line (Err Read) = ⊥
Answered start now held holds line (Err (BadLine n)) = ⊥
