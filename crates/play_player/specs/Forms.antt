-- SPDX-License-Identifier: MIT OR Apache-2.0
-- The forms in which a line's text is written.
use Rattle.std.specs.Prelude.{◌≡◌, ℕ, ◌+◌, ◌-◌, false, List, [], ◌∷◌, ◌++◌, length, take, Option, Some, Result, Ok, Err, if◌then◌else◌}
use Rattle.std.specs.Option.{option_map_or}
use Rattle.ffa_model.specs.declared.operation.Outcome.{Outcome}
use Rattle.ffa_model.specs.declared.operation.Outcome.TheVariants.{Data, Regs}
use Rattle.ffa_playable.specs.Bench.{Bench, processors_of}
use Rattle.play_trace.specs.TraceLines.{Line, line_in}
use Rattle.play_trace.specs.TraceText.{line_text, line_after, after, ended}
use Rattle.play_trace.specs.Lines.{outcome_of}
use Rattle.play_trace.specs.declared.output.PlayError.{PlayError}
use Rattle.play_trace.specs.declared.output.PlayError.TheVariants.{NoMemory}
use Rattle.play_player.specs.declared.form.Form.{Form}
use Rattle.play_reasons.specs.Marks.{names_mark, number_mark}
use Rattle.play_reasons.specs.Reasons.{reason_if}
use Rattle.play_player.specs.Short.{short_data, short_registers}

-- neither numbers nor names nor reasons, and in full
abbrev pub plain : Form
plain = record { number = false; names = false; explain = false; short = false }

abbrev pub number_in : Form → ℕ → List ℕ
number_in form number = if form.number then number_mark number else []

abbrev pub names_in : Form → List ℕ → List ℕ
names_in form x = if form.names then names_mark x else []

-- the text of an operation, short where that is asked for, with the names of its registers, where they are asked for,
-- before the LF that ends it
abbrev pub worded_in : Form → Option Outcome → List ℕ → List ℕ
worded_in form (Some (Regs runner x)) said =
    if form.short then ended (short_registers runner.0 x ++ names_in form x)
    else if form.names then ended (take (length said - 1) said ++ names_mark x)
    else said
worded_in form (Some (Data value)) said = if form.short then ended (short_data value) else said
worded_in form other said = said

-- The text of a line in a form, by the line's number, what came of its operation, the line that says why that is refused,
-- and what it said plainly. A line that says nothing has no number.
abbrev pub dressed : Form → ℕ → Option Outcome → List ℕ → List ℕ → List ℕ
dressed form number outcome reason [] = []
dressed form number outcome reason (c ∷ said) =
    number_in form number ++ worded_in form outcome (c ∷ said) ++ reason

-- what a line of this number prints: why its operation is refused is asked where it is done
abbrev pub line_text_in : Form → ℕ → Bench → Line → List ℕ
line_text_in form number s line =
    dressed form number (outcome_of s line) (reason_if form.explain s line) (line_text s line)

-- the same of the bytes of a line
unfoldable pub text_of_in : Form → ℕ → Bench → List ℕ → List ℕ
text_of_in form number s bytes = option_map_or (line_text_in form number s) (line_in (processors_of s) bytes) []

-- what lines print one after another, of which the first has this number
abbrev pub text_in : Form → ℕ → Bench → List (List ℕ) → List ℕ
text_in form number s [] = []
text_in form number s (line ∷ lines) = text_of_in form number s line ++ text_in form (number + 1) (after s line) lines

-- a line was done, this is its plain text, and this came of it; or there is no memory for its text
abbrev pub DoesLine : Bench → Bench → Line → List ℕ → Result (Option Outcome) PlayError → Type 0
DoesLine start now line said (Ok outcome) =
    (now ≡ line_after start line) × (said ≡ line_text start line) × (outcome ≡ outcome_of start line)
DoesLine start now line said (Err e) = e ≡ NoMemory
