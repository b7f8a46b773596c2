-- SPDX-License-Identifier: MIT OR Apache-2.0
-- What more there is to say of a guard that isn't met than what is found.
use Rattle.std.specs.Prelude.{ℕ, ◌==◌, Bool, true, not, ◌&&◌, ◌||◌, nat_eq, nat_le, List, [], ◌∷◌, codes, drop, is_some, length, take, Option, None, Some, if◌then◌else◌, bytes_eq}
use Rattle.std.specs.List.{list_all, list_any, position_or_len, starts_with}
use Rattle.ffa_abi.specs.Names.{answer_names}
use Rattle.ffa_model.specs.declared.rows.TheConstants.{CALLS}
use Rattle.play_trace.specs.TraceLines.{space, words_of}
use Rattle.play_player.specs.Patterns.{behind_first, fit}
use Rattle.play_player.specs.declared.guards.Asks.{Asks}
use Rattle.play_player.specs.declared.guards.Asks.TheVariants.{Printed, Runner}
use Rattle.play_player.specs.declared.hint.Hint.{Hint}
use Rattle.play_player.specs.declared.hint.Hint.TheVariants.{Bad, Taken, Open}

-- WHICH TEXTS CAN BE MET

abbrev pub first_word : List ℕ → List ℕ
first_word text = take (position_or_len (λ c. c == space) text) text

abbrev pub are_digits : List ℕ → Bool
are_digits word = list_all (λ c. nat_le 48 c && nat_le c 57) word

abbrev pub are_upper_digits : List ℕ → Bool
are_upper_digits word = list_all (λ c. (nat_le 48 c && nat_le c 57) || (nat_le 65 c && nat_le c 70)) word

-- `..`, or a decimal number without zeros in front
abbrev pub is_check : List ℕ → Bool
is_check word =
    bytes_eq word (codes "..")
    || (nat_le 1 (length word) && (not (starts_with nat_eq word (codes "0")) && are_digits word))

-- the name of what a caller sees and is no call, or of a call
abbrev pub is_answer_name : List ℕ → Bool
is_answer_name word = list_any (λ row. bytes_eq word row.1) answer_names

abbrev pub is_row_name : List ℕ → Bool
is_row_name word = list_any (λ row. bytes_eq word row.1.now) CALLS.now

abbrev pub is_call_name : List ℕ → Bool
is_call_name word = is_answer_name word || is_row_name word

-- a word with which the line of an outcome begins, or that of a partition that goes on, which only one of several processors
-- lets go on, or one of the lines of `show` and `audit`
abbrev pub begins_outcome : List ℕ → Bool
begins_outcome word =
    list_any (bytes_eq word) (codes "regs" ∷ codes "data" ∷ codes "done" ∷ codes "fault" ∷ [])

abbrev pub begins_resumed : Option ℕ → List ℕ → Bool
begins_resumed processors word = is_some processors && bytes_eq word (codes "resumed")

abbrev pub begins_listing : List ℕ → Bool
begins_listing word =
    list_any (bytes_eq word)
    (codes "runner" ∷ codes "pages" ∷ codes "cert" ∷ codes "root" ∷ codes "agrees" ∷ codes "differs" ∷ [])

abbrev pub is_opening : Option ℕ → List ℕ → Bool
is_opening processors word = begins_outcome word || (begins_resumed processors word || begins_listing word)

-- behind FFA_ERROR stands a check, by its number, or what the error is
abbrev pub may_follow_error : List ℕ → Bool
may_follow_error text =
    if starts_with nat_eq text (codes "check ") then is_check (first_word (drop 6 text)) else true

-- behind any other name nothing stands, or `..`
abbrev pub may_follow : (name text : List ℕ) → Bool
may_follow name text =
    list_any (bytes_eq text) (codes "" ∷ codes ".." ∷ [])
    || (bytes_eq name (codes "FFA_ERROR") && may_follow_error text)

-- some line that is printed in a trace of so many processors may meet a text, by its first words
abbrev pub can_be_met : Option ℕ → List ℕ → Bool
can_be_met processors text =
    if starts_with nat_eq text (codes "check ") then is_check (first_word (drop 6 text))
    else if starts_with nat_eq text (codes "FFA_")
    then is_call_name (first_word text) && may_follow (first_word text) (behind_first text)
    else is_opening processors (first_word text)

-- a text is written as an endpoint's identifier is
abbrev pub is_runner : List ℕ → Bool
is_runner text = (length text == 4) && are_upper_digits text

-- WHAT IS SAID

-- a line begins with the words of a text, whose numbers may lack zeros where it begins with `regs `
abbrev pub begins_line : List ℕ → List ℕ → Bool
begins_line text line = fit (starts_with nat_eq text (codes "regs ")) true (words_of text) (words_of line)

-- of a guard that isn't met in a trace of so many processors, where this is found, and where text was printed before
abbrev pub hint_of : Option ℕ → Asks → List ℕ → List ℕ → (printed : Bool) → Option Hint
hint_of processors Runner wants found printed = if is_runner wants then None else Some Bad
hint_of processors Printed wants [] printed =
    if not (can_be_met processors wants) then Some Bad else if printed then Some Taken else None
hint_of processors Printed wants (c ∷ found) printed =
    if not (can_be_met processors wants) then Some Bad else if begins_line wants (c ∷ found) then Some Open else None
