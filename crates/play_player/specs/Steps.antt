-- SPDX-License-Identifier: MIT OR Apache-2.0
-- FOR PROOFS ALONE
-- The steps of a play line by line, which private functions promise one another.
use Rattle.std.specs.Prelude.{◌≡◌, ℕ, Bool, List, [], ◌∷◌, ◌++◌, Option, IfSome, Result, Ok, Err, ⊤}
use Rattle.std.specs.Io.KnownBytes.{Appends}
use Rattle.ffa_playable.specs.Bench.{Bench}
use Rattle.ffa_model.specs.declared.operation.Outcome.{Outcome}
use Rattle.play_trace.specs.TraceLines.{Line, feed}
use Rattle.play_trace.specs.TraceText.{line_after, line_text}
use Rattle.play_trace.specs.Lines.{meant, outcome_of}
use Rattle.play_trace.specs.Output.{TookFront}
use Rattle.play_trace.specs.declared.output.PlayError.{PlayError}
use Rattle.play_trace.specs.declared.output.PlayError.TheVariants.{Read, Write, NoMemory, BadLine}
use Rattle.play_reasons.specs.Reasons.{reason_if, told_line}
use Rattle.play_reasons.specs.declared.reason.Reason.{Reason}
use Rattle.play_player.specs.declared.form.Form.{Form}
use Rattle.play_player.specs.declared.listening.Event.{Event}
use Rattle.play_player.specs.Forms.{line_text_in}

-- What follows speaks of what is played on before and now (`start`, `now`), of what the writer held before, and holds,
-- and of the bytes of a line before and now (`old`, `new`).

-- OF A LINE'S TEXT

-- wherever a line was done, where this came of its operation: the reason is that of the operation there
abbrev pub SaysWhy : Bool → Bench → Line → Option Outcome → Option Reason → Type 0
SaysWhy explain now line outcome reason =
    (start : Bench) → now ≡ line_after start line → outcome ≡ outcome_of start line
    → told_line reason ≡ reason_if explain start line

-- wherever the line of an event was done, this is its text in this form, if there was memory for the text
abbrev pub MakesText : Form → Bench → Event → Option (List ℕ) → Type 0
MakesText form now event text =
    (start : Bench) → now ≡ line_after start (meant event.line) → event.text.now ≡ line_text start (meant event.line)
    → event.outcome ≡ outcome_of start (meant event.line)
    → IfSome text (λ t. t ≡ line_text_in form event.number start (meant event.line))

-- a line was done, and its text was written, or a beginning of it
abbrev pub PrintsLine : {X : Type 0} → Form → Bench → Bench → ℕ → Line → Option (List ℕ) → Option (List ℕ)
    → Result X PlayError → Type 0
PrintsLine form start now number line held holds (Ok _) =
    (now ≡ line_after start line) × Appends held holds (line_text_in form number start line)
PrintsLine form start now number line held holds (Err Read) = ⊥
PrintsLine form start now number line held holds (Err Write) =
    (now ≡ line_after start line) × TookFront held holds (line_text_in form number start line)
PrintsLine form start now number line held holds (Err NoMemory) = ⊤
PrintsLine form start now number line held holds (Err (BadLine n)) = ⊥

-- OF A LINE THAT IS READ

-- its LF was put back
abbrev pub Refuses : {X : Type 0} → List ℕ → List ℕ → ℕ → Result X PlayError → Type 0
Refuses old new number (Ok _) = ⊥
Refuses old new number (Err (BadLine n)) = (n ≡ number) × (new ≡ old ++ feed ∷ [])
Refuses old new number (Err Read) = ⊥
Refuses old new number (Err NoMemory) = ⊤
Refuses old new number (Err Write) = ⊥
