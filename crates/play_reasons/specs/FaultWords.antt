-- SPDX-License-Identifier: MIT OR Apache-2.0
-- What is wrong with the bytes of a line, in words.
use Rattle.std.specs.Prelude.{◌==◌, ℕ, List, ◌++◌, codes, decimal, if◌then◌else◌}
use Rattle.play_reasons.specs.declared.fault.LineFault.{LineFault}
use Rattle.play_reasons.specs.declared.fault.LineFault.TheVariants.{NoEnd, CarriageReturn, Words, Whole}
use Rattle.play_reasons.specs.declared.fault.WordFault.{WordFault}
use Rattle.play_reasons.specs.declared.fault.WordFault.TheVariants.{Empty, UnknownCommand, Help, HelpOnSeveral, Quit, Name, NoNumber, Prefix, LongNumber, Size, Digits, Registers, Processor, Missing, TooMany}

-- that the value to store has so many digits
abbrev pub digits_words : ℕ → List ℕ
digits_words digits =
    if digits == 1 then codes "the value has 1 digit; it must have 2, 4, 8 or 16"
    else codes "the value has " ++ decimal digits ++ codes " digits; it must have 2, 4, 8 or 16"

abbrev pub word_fault_words : WordFault → List ℕ
word_fault_words Empty = codes "empty word"
word_fault_words UnknownCommand = codes "unknown command"
word_fault_words Help =
    codes "a line is call X0 .. X7, load A N, store A V, fetch A, show or audit, in hexadecimal; with --words also call NAME ARGUMENT=N .., as call FFA_RUN partition=8001, whose names docs/PYTHON.md lists; quit ends a session"
word_fault_words HelpOnSeveral =
    codes "a line is call X0 .. X7, load A N, store A V, fetch A, show, audit, on N or interrupt, in hexadecimal; with --words also call NAME ARGUMENT=N .., as call FFA_RUN partition=8001, whose names docs/PYTHON.md lists; quit ends a session"
word_fault_words Quit = codes "to end a session, end the input, as Ctrl+D does"
word_fault_words Name = codes "the name of a call is read only with --words"
word_fault_words NoNumber = codes "not a hexadecimal number"
word_fault_words Prefix = codes "a number must not begin with 0x"
word_fault_words (LongNumber digits) =
    codes "the number has " ++ decimal digits ++ codes " digits; it must have at most 16"
word_fault_words Size = codes "the size must be 1, 2, 4 or 8"
word_fault_words (Digits digits) = digits_words digits
word_fault_words (Registers count) = codes "a call needs 1 to 8 registers, found " ++ decimal count
word_fault_words (Processor count) = codes "the processor's number must be less than " ++ decimal count
word_fault_words Missing = codes "missing word"
word_fault_words TooMany = codes "unexpected word"

abbrev pub fault_words : LineFault → List ℕ
fault_words NoEnd = codes "the line does not end in LF"
fault_words CarriageReturn = codes "the line ends in CR LF; it must end in LF"
fault_words (Words column cause) = codes "column " ++ decimal column ++ codes ": " ++ word_fault_words cause
fault_words Whole = codes "not a line of a trace"
