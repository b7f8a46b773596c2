-- SPDX-License-Identifier: MIT OR Apache-2.0
-- What a session leaves: a play that tells of a bad line and goes on.
use Rattle.std.specs.Prelude.{◌≡◌, ◌≤◌, ◌⊎◌, ◌↔◌, ◌&&◌, ◌||◌, not, ℕ, ◌+◌, Bool, true, false, List, [], ◌∷◌, ◌++◌, codes, decimal, filter, length, Option, None, Some, IsNone, Result, Ok, Err, ⊤, if◌then◌else◌, bytes_eq}
use Rattle.std.specs.Io.KnownBytes.{Appends, Consumes}
use Rattle.std.specs.List.{list_all}
use Rattle.ffa_playable.specs.Bench.{Bench, processors_of}
use Rattle.play_trace.specs.TraceLines.{feed, has_no_feed, is_good, joined}
use Rattle.play_trace.specs.TraceText.{after, after_all, text}
use Rattle.play_trace.specs.Output.{TookFront}
use Rattle.play_trace.specs.declared.output.PlayError.{PlayError}
use Rattle.play_trace.specs.declared.output.PlayError.TheVariants.{Read, Write, NoMemory, BadLine}
use Rattle.play_reasons.specs.FaultWords.{fault_words}
use Rattle.play_reasons.specs.Whole.{IsWhole}
use Rattle.play_reasons.specs.declared.fault.LineFault.{LineFault}
use Rattle.play_reasons.specs.declared.fault.LineFault.TheVariants.{NoEnd, CarriageReturn, Words, Whole}
use Rattle.play_player.specs.declared.form.Form.{Form}
use Rattle.play_player.specs.Cut.{CutsTo}
use Rattle.play_player.specs.Forms.{text_of_in}
use Rattle.play_player.specs.Reading.{IsAll, ReadsNoLine}

-- whether a line asks that the session end
abbrev pub asks_end : List ℕ → Bool
asks_end line = bytes_eq line (codes "quit") || bytes_eq line (codes "exit")

-- whether the bytes are a line behind which a session goes on, where they have no LF
abbrev pub is_heard : List ℕ → Bool
is_heard line = has_no_feed line && not (asks_end line)

-- these bytes begin with a line that asks for the end
abbrev pub BeginsWithEnd : List ℕ → Type 0
BeginsWithEnd bytes = (line more : List ℕ) × (asks_end line ≡ true) × (bytes ≡ line ++ feed ∷ more)

-- a session ends where this is left: no line, but maybe a rest that no LF ends; or a line that asks for the end
abbrev pub EndsSession : List ℕ → Type 0
EndsSession rest = (has_no_feed rest ≡ true) ⊎ BeginsWithEnd rest

-- the good ones of these lines of a trace of so many processors, in order
abbrev pub good_lines : Option ℕ → List (List ℕ) → List (List ℕ)
good_lines processors lines = filter (is_good processors) lines

-- what the good ones of these lines print, of which the first has this number: a bad one counts, and isn't done
abbrev pub good_text_in : Form → ℕ → Bench → List (List ℕ) → List ℕ
good_text_in form number s [] = []
good_text_in form number s (line ∷ lines) =
    if is_good (processors_of s) line
    then text_of_in form number s line ++ good_text_in form (number + 1) (after s line) lines
    else good_text_in form (number + 1) s lines

-- What follows speaks of what is played on before and now (`start`, `now`), of what was unread in the reader before
-- and after, and of what the writer held before, and holds.

-- These lines were read, none of which asks for the end, and the good ones were done, and no other. This is their text, of which their plain text is left
-- when numbers and names are cut off, unless it is short.
pub record Conversed (form : Form) (start now : Bench) (had has : Option (List ℕ)) (lines : List (List ℕ))
    (printed : List ℕ) : Type 0 where
  pub each : list_all is_heard lines ≡ true
  pub read : Consumes had has (joined lines)
  pub state : now ≡ after_all start (good_lines (processors_of start) lines)
  pub said : printed ≡ good_text_in form 1 start lines
  pub cut : form.short ≡ false → CutsTo printed (text start (good_lines (processors_of start) lines))

-- what is left ends a session
abbrev pub IsOver : Option (List ℕ) → Type 0
IsOver left = (rest : List ℕ) × EndsSession rest × IsAll left rest

-- these lines were read and their text was written, and so was a good one behind them, of whose text the writer took a
-- beginning
pub record FailsToAnswer (form : Form) (start now : Bench) (held holds had : Option (List ℕ)) : Type 0 where
  pub left : Option (List ℕ)
  pub lines : List (List ℕ)
  pub last : List ℕ
  pub printed : List ℕ
  pub between : Option (List ℕ)
  pub conversed : Conversed form start now had left (lines ++ last ∷ []) printed
  pub good : is_good (processors_of start) last ≡ true
  pub written : Appends held between (good_text_in form 1 start lines)
  pub began :
      TookFront between holds
      (text_of_in form (1 + length lines) (after_all start (good_lines (processors_of start) lines)) last)

-- A session: to its end, or as far as could be read, where these are all lines that were read whole, or as far as could be
-- written. Of what it leaves where there is no memory nothing is said.
abbrev pub SessionIn : {X : Type 0} → Form → Bench → Bench → (held holds had has : Option (List ℕ))
    → Result X PlayError → Type 0
SessionIn form start now held holds had has (Ok _) =
    (left : Option (List ℕ)) × (lines : List (List ℕ)) × (printed : List ℕ)
    × Conversed form start now had left lines printed × IsOver left × Appends held holds printed
SessionIn form start now held holds had has (Err Read) =
    (left : Option (List ℕ)) × (lines : List (List ℕ)) × (printed : List ℕ)
    × Conversed form start now had left lines printed × ReadsNoLine left has × Appends held holds printed
SessionIn form start now held holds had has (Err Write) = FailsToAnswer form start now held holds had
SessionIn form start now held holds had has (Err NoMemory) = ⊤
SessionIn form start now held holds had has (Err (BadLine n)) = ⊥

-- WHAT IS TOLD OF BAD LINES

-- what stands between a line's number and what is wrong with it: a column goes on from the number
abbrev pub joint_of : LineFault → List ℕ
joint_of NoEnd = codes ": "
joint_of CarriageReturn = codes ": "
joint_of (Words column cause) = codes ", "
joint_of Whole = codes ": "

-- what is wrong with a line, where something is
abbrev pub cause_text : Option LineFault → List ℕ
cause_text None = codes ": bad line\n"
cause_text (Some fault) = joint_of fault ++ fault_words fault ++ codes "\n"

-- that this is wrong with the line of this number
abbrev pub bad_line_text : ℕ → Option LineFault → List ℕ
bad_line_text number fault = codes "ffaplay: line " ++ decimal number ++ cause_text fault

-- this is told of the line of this number in a trace of so many processors, whose bytes are these, with its LF where it has
-- one: there is nothing wrong just with a whole line
abbrev pub TellsOf : Option ℕ → ℕ → List ℕ → List ℕ → Type 0
TellsOf processors number bytes text =
    (fault : Option LineFault) × (IsNone fault ↔ IsWhole processors bytes) × (text ≡ bad_line_text number fault)

-- this was told of it: all that is told, or a front of that, where the writer failed
abbrev pub ToldOf : Option ℕ → ℕ → List ℕ → List ℕ → Type 0
ToldOf processors number bytes said = (lost : List ℕ) × TellsOf processors number bytes (said ++ lost)

-- this was told of a line that was read whole: nothing of a good one
abbrev pub ToldOfLine : Option ℕ → ℕ → List ℕ → List ℕ → Type 0
ToldOfLine processors number line said =
    ((is_good processors line ≡ true) × (said ≡ []))
    ⊎ ((is_good processors line ≡ false) × ToldOf processors number (line ++ feed ∷ []) said)

-- this was told of these lines, of each in order, of which the first has this number
abbrev pub ToldOfAll : Option ℕ → ℕ → List (List ℕ) → List ℕ → Type 0
ToldOfAll processors number [] said = said ≡ []
ToldOfAll processors number (line ∷ lines) said =
    (own more : List ℕ) × (said ≡ own ++ more) × ToldOfLine processors number line own
    × ToldOfAll processors (number + 1) lines more

-- this was told of what is left where a session ends: of a rest that no LF ends, and else nothing
abbrev pub ToldOfRest : Option ℕ → ℕ → List ℕ → List ℕ → Type 0
ToldOfRest processors number rest said =
    ((rest ≡ []) × (said ≡ [])) ⊎ (BeginsWithEnd rest × (said ≡ []))
    ⊎ ((has_no_feed rest ≡ true) × (1 ≤ length rest) × ToldOf processors number rest said)

-- lines were read, and this was told of them
abbrev pub ToldOfRead : Option ℕ → (had held holds : Option (List ℕ)) → Type 0
ToldOfRead processors had held holds =
    (lines : List (List ℕ)) × (left : Option (List ℕ)) × (list_all is_heard lines ≡ true)
    × Consumes had left (joined lines) × ((said : List ℕ) × ToldOfAll processors 1 lines said × Appends held holds said)

-- What a session told in a trace of so many processors, by what was unread in the reader before, and by what `told` held and
-- holds: of all lines up to the end, and of a rest that no LF ends; or, where it could read or write no further, of lines
-- that it had read.
abbrev pub TellsBadLines : {X : Type 0} → Option ℕ → (had held holds : Option (List ℕ)) → Result X PlayError → Type 0
TellsBadLines processors had held holds (Ok _) =
    (lines : List (List ℕ)) × (rest : List ℕ) × (list_all is_heard lines ≡ true) × IsAll had (joined lines ++ rest)
    × ((said last : List ℕ) × ToldOfAll processors 1 lines said × ToldOfRest processors (1 + length lines) rest last
    × Appends held holds (said ++ last))
TellsBadLines processors had held holds (Err Read) = ToldOfRead processors had held holds
TellsBadLines processors had held holds (Err Write) = ToldOfRead processors had held holds
TellsBadLines processors had held holds (Err NoMemory) = ⊤
TellsBadLines processors had held holds (Err (BadLine n)) = ⊤
