-- SPDX-License-Identifier: MIT OR Apache-2.0
-- What the text of a guard wants of a printed line: to be that line, or to fit a pattern.
use Rattle.std.specs.Prelude.{ℕ, ◌+◌, ◌-◌, ◌==◌, Bool, true, false, not, ◌&&◌, ◌||◌, nat_eq, nat_le, List, [], ◌∷◌, ◌++◌, codes, decimal, drop, length, slice_index, take, unwrap_or, Option, None, Some, if◌then◌else◌, bytes_eq}
use Rattle.std.specs.List.{position_or_len, starts_with}
use Rattle.std.specs.Option.{option_map_or}
use Rattle.ffa_abi.specs.Names.{call_name_of, error_name_of}
use Rattle.ffa_model.specs.declared.operation.Op.{Op}
use Rattle.ffa_model.specs.declared.operation.Op.TheVariants.{Call, Load, Store, Fetch}
use Rattle.ffa_model.specs.declared.operation.Outcome.{Outcome}
use Rattle.ffa_model.specs.declared.operation.Outcome.TheVariants.{Regs}
use Rattle.ffa_model.specs.declared.why.Why.{Why}
use Rattle.ffa_model.specs.declared.why.Why.TheVariants.{Refused, Fault}
use Rattle.ffa_model.specs.Registers.{low}
use Rattle.ffa_playable.specs.Bench.{Bench, processors_of, why_of}
use Rattle.play_trace.specs.TraceLines.{Line, operate, show, audit, skip, turn, interrupt, line_in, space, words_of}
use Rattle.play_trace.specs.TraceText.{spaced}
use Rattle.play_trace.specs.Lines.{outcome_of}
use Rattle.play_reasons.specs.Checks.{number_of}
use Rattle.play_player.specs.declared.patterns.Came.{Came}
use Rattle.play_player.specs.declared.patterns.Pattern.{Pattern}
use Rattle.play_player.specs.declared.patterns.Pattern.TheVariants.{Words, Name, NameAndCheck, Check}

-- WHAT A LINE CAME TO

-- the number of the check by which this call is refused
abbrev pub check_in : List ℕ → Option Why → Option ℕ
check_in x None = None
check_in x (Some (Refused refusal about)) = number_of (low (slice_index x 0)) refusal
check_in x (Some (Fault kind obstacle)) = None

abbrev pub check_of : Bench → Op → Option ℕ
check_of s (Call x) = check_in x (why_of s (Call x))
check_of s (Load address size) = None
check_of s (Store address size value) = None
check_of s (Fetch address) = None

abbrev pub nothing : Came
nothing = record { outcome = None; check = None }

-- what a line comes to there: its outcome, where it has one, and the number of the check that refuses its call
abbrev pub line_came : Bench → Line → Came
line_came s (operate op) = record { outcome = outcome_of s (operate op); check = check_of s op }
line_came s show = nothing
line_came s audit = nothing
line_came s skip = nothing
line_came s (turn processor) = nothing
line_came s interrupt = record { outcome = outcome_of s interrupt; check = None }

unfoldable pub came_of : Bench → List ℕ → Came
came_of s bytes = option_map_or (line_came s) (line_in (processors_of s) bytes) nothing

-- WHAT A TEXT IS COMPARED WITH

-- what stands behind the first word
abbrev pub behind_first : List ℕ → List ℕ
behind_first text = drop (position_or_len (λ c. c == space) text + 1) text

-- the name of a call, with the error's between them or without; or a check, or else words
abbrev pub pattern_of : List ℕ → Pattern
pattern_of text =
    if starts_with nat_eq text (codes "FFA_")
    then (if starts_with nat_eq (behind_first text) (codes "check ") then NameAndCheck else Name)
    else if starts_with nat_eq text (codes "check ") then Check
    else Words

-- the name of the error that registers hold, with a space before it
abbrev pub error_behind : List ℕ → List ℕ
error_behind x = option_map_or spaced (error_name_of x) []

-- the names of registers, or the line that prints them, where they have none
abbrev pub named : List ℕ → List ℕ → List ℕ
named x line = option_map_or (λ name. name ++ error_behind x) (call_name_of x) line

abbrev pub told_by_name : Option Outcome → List ℕ → List ℕ
told_by_name (Some (Regs runner x)) line = named x line
told_by_name other line = line

-- a check, by its number; and behind a name, with a space before it, where there is one
abbrev pub check_text : ℕ → List ℕ
check_text number = codes "check " ++ decimal number

abbrev pub check_behind : Option ℕ → List ℕ
check_behind check = option_map_or (λ number. spaced (check_text number)) check []

-- the name of registers alone, or the line that prints them
abbrev pub told_by_call : Option Outcome → List ℕ → List ℕ
told_by_call (Some (Regs runner x)) line = unwrap_or (call_name_of x) line
told_by_call other line = line

-- what a line tells that came to this: itself, or its names with the check that refuses it, of which the error's may be left
-- out, or that check alone
abbrev pub told : Pattern → Came → List ℕ → List ℕ
told Words came line = line
told Name came line = told_by_name came.outcome line ++ check_behind came.check
told NameAndCheck came line = told_by_call came.outcome line ++ check_behind came.check
told Check came line = option_map_or check_text came.check (told_by_name came.outcome line)

-- WHETHER IT MEETS A TEXT

abbrev pub without_zeros : List ℕ → List ℕ
without_zeros word = drop (position_or_len (λ c. not (c == 48)) word) word

-- two words are alike: they are the same, or, where they are numbers, they are but for zeros at their front
abbrev pub is_alike : Bool → List ℕ → List ℕ → Bool
is_alike numbers wanted word =
    bytes_eq wanted word
    || (numbers && nat_le 1 (length wanted) && bytes_eq (without_zeros wanted) (without_zeros word))

-- the words that are wanted are alike those of a line, one by one; where they are loose, the line may go on, and numbers
-- that are missing are 0
abbrev pub fit : Bool → Bool → List (List ℕ) → List (List ℕ) → Bool
fit numbers loose [] [] = true
fit numbers loose [] (word ∷ words) =
    loose || (numbers && (is_alike numbers (codes "0") word && fit numbers loose [] words))
fit numbers loose (wanted ∷ more) [] = false
fit numbers loose (wanted ∷ more) (word ∷ words) = is_alike numbers wanted word && fit numbers loose more words

-- a text that ends in ` ..` is loose behind its words before that, and so is the name of a call; the words behind
-- `regs ` are numbers
abbrev pub fits : List ℕ → List ℕ → Bool
fits text line =
    let numbers = starts_with nat_eq text (codes "regs ") in
    if bytes_eq (drop (length text - 3) text) (codes " ..")
    then fit numbers true (words_of (take (length text - 3) text)) (words_of line)
    else fit numbers (starts_with nat_eq text (codes "FFA_")) (words_of text) (words_of line)

-- a line that came to this meets a text: it is the text, or what it tells fits it
unfoldable pub meets : Came → List ℕ → List ℕ → Bool
meets came text line = bytes_eq text line || fits text (told (pattern_of text) came line)
