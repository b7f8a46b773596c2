-- SPDX-License-Identifier: MIT OR Apache-2.0
-- What a line in words means: a call by its name, the numbers of its arguments, and the registers that hold them.
use Rattle.std.specs.Prelude.{◌≡◌, ℕ, ◌+◌, ◌-◌, ◌*◌, ◌/◌, ◌%◌, ◌^◌, ◌==◌, Bool, not, ◌&&◌, nat_eq, nat_le, nat_lt, List, [], ◌∷◌, ◌++◌, bit_or, codes, drop, find, fold, is_some, length, position, take, unwrap_or, Option, None, Some, option_map, Result, Ok, Err, ⊤, if◌then◌else◌, bytes_eq}
use Rattle.std.specs.Int.{from_le_bytes, w128}
use Rattle.std.specs.List.{flat_map, list_any, starts_with}
use Rattle.std.specs.Option.{option_or}
use Rattle.play_trace.specs.TraceLines.{bare, hash, number_in, words_of}
use Rattle.play_trace.specs.TraceText.{spaced}
use Rattle.uuid.specs.Text.{parsed}
use Rattle.play_trace.specs.Calls.{Argument, Form, function_named}
use Rattle.play_trace.specs.Names.{name_text}
use Rattle.play_trace.specs.declared.arguments.Place.{Place}
use Rattle.play_trace.specs.declared.arguments.Place.TheVariants.{High, Low, Word, Words}
use Rattle.play_trace.specs.declared.arguments.Usual.{Usual}
use Rattle.play_trace.specs.declared.arguments.Usual.TheVariants.{Needed, Zero, Length}
use Rattle.play_trace.specs.declared.fault.Cause.{Cause}
use Rattle.play_trace.specs.declared.fault.Cause.TheVariants as cause
use Rattle.play_trace.specs.declared.fault.LowerError.{LowerError}
use Rattle.play_trace.specs.declared.fault.LowerError.TheVariants as error
use Rattle.play_trace.specs.declared.fault.WordsFault.{WordsFault}
use Rattle.play_trace.specs.declared.given.Given.{Given}
use Rattle.play_trace.specs.declared.name.Name.{Name}
use Rattle.play_trace.specs.declared.name.Name.TheVariants.{Feature, Uuid}

-- THE ARGUMENTS THAT ARE GIVEN

abbrev pub is_named_so : List ℕ → Given → Bool
is_named_so name given = bytes_eq (name_text given.argument.0) name

abbrev pub is_given : List Given → List ℕ → Bool
is_given given name = list_any (is_named_so name) given

abbrev pub argument_named : List Argument → List ℕ → Option Argument
argument_named arguments name = find (λ argument. bytes_eq (name_text argument.0) name) arguments

-- by its number, whether the form reads a register whole
abbrev pub is_whole : Form → ℕ → Bool
is_whole function register = function.is_wide && list_any (λ whole. whole == register) function.whole

-- the largest number that an argument may be in the form that the call has
abbrev pub most_at : Form → Place → ℕ → ℕ
most_at function (Word register) most = if is_whole function register then 2 ^ 64 - 1 else most
most_at function other most = most

abbrev pub most_of : Form → Argument → ℕ
most_of function argument = most_at function argument.1 argument.2

-- the number of a UUID, which is written as in a manifest: its first byte has the lowest bits
unfoldable pub uuid_in : List ℕ → Option ℕ
uuid_in text = option_map (from_le_bytes w128) (parsed text)

-- a feature is a number, or the call of a name, behind which `_64` stands for the 64-bit form
unfoldable pub feature_in : List ℕ → Option ℕ
feature_in text = option_or (number_in 32 text) (option_map (λ form. form.number) (function_named text))

abbrev pub or_cause : Cause → Option ℕ → Result ℕ Cause
or_cause cause None = Err cause
or_cause cause (Some value) = Ok value

-- the number that a text writes of an argument of this name
abbrev pub value_in : Name → List ℕ → Result ℕ Cause
value_in Uuid text = or_cause cause.NoUuid (uuid_in text)
value_in Feature text = or_cause cause.NoFeature (feature_in text)
value_in other text = or_cause cause.NoNumber (number_in 32 text)

abbrev pub valued : Argument → ℕ → Result ℕ Cause → Result Given Cause
valued argument most (Err cause) = Err cause
valued argument most (Ok value) =
    if nat_le value most then Ok (record { argument = argument; value = value }) else Err (cause.TooLarge most)

-- what is given, behind what was given before it, by the argument of a name, where the call has it, and its text
abbrev pub first_given : Form → List Given → Option Argument → (name text : List ℕ) → Result Given Cause
first_given function before None name text = Err (cause.UnknownArgument function.narrow)
first_given function before (Some argument) name text =
    if is_given before name then Err cause.Twice else valued argument (most_of function argument) (value_in argument.0 text)

unfoldable pub named_in : Form → List Given → (name text : List ℕ) → Result Given Cause
named_in function before name text =
    first_given function before (argument_named function.arguments name) name text

-- of a word in which `=` stands there
abbrev pub cut_at : Form → List Given → List ℕ → Option ℕ → Result Given Cause
cut_at function before word None = Err cause.NoArgument
cut_at function before word (Some end) = named_in function before (take end word) (drop (end + 1) word)

abbrev pub equals : ℕ
equals = 61

-- what a word `NAME=NUMBER` gives
unfoldable pub given_in : Form → List Given → List ℕ → Result Given Cause
given_in function before word = cut_at function before word (position (λ c. c == equals) word)

-- what words give, of which the first stands at a column, behind what was given before them; or the first of them that gives
-- nothing
abbrev pub goes_on : (List Given → Result (List Given) WordsFault) → (column : ℕ) → List Given → Result Given Cause → Result (List Given) WordsFault
goes_on next column before (Ok given) = next (before ++ given ∷ [])
goes_on next column before (Err cause) = Err (record { column = column; cause = cause })

abbrev pub givens : Form → (column : ℕ) → List Given → List (List ℕ) → Result (List Given) WordsFault
givens function column before [] = Ok before
givens function column before (word ∷ words) =
    goes_on (λ given. givens function (column + (length word + 1)) given words) column before (given_in function before word)

-- the number of an argument: what is given for it, or what stands for it
abbrev pub value_named : List Given → List ℕ → Option ℕ
value_named given name = option_map (λ one. one.value) (find (is_named_so name) given)

abbrev pub usual_of : List Given → Usual → Option ℕ
usual_of given Needed = None
usual_of given Zero = Some 0
usual_of given Length = value_named given (codes "length")

abbrev pub value_of : List Given → Argument → Option ℕ
value_of given argument = option_or (value_named given (name_text argument.0)) (usual_of given argument.3)

-- THE REGISTERS

-- the 32-bit word of a number at a place, counted from the lowest, of which there are four
abbrev pub word_at : ℕ → ℕ → ℕ
word_at value place = if nat_lt place 4 then value / 2 ^ (32 * place) % 2 ^ 32 else 0

-- what a register, by its number, has of an argument of this value
abbrev pub share : Form → Place → (value register : ℕ) → ℕ
share function (High its) value register = if register == its then value % 2 ^ 16 * 2 ^ 16 else 0
share function (Low its) value register = if register == its then value % 2 ^ 16 else 0
share function (Word its) value register =
    if register == its then (if is_whole function its then value % 2 ^ 64 else value % 2 ^ 32) else 0
share function (Words first) value register =
    if nat_le first register then word_at value (register - first) else 0

-- with what it has of one argument more
abbrev pub with_share : Form → List Given → ℕ → (held : ℕ) → Argument → ℕ
with_share function given register held argument =
    bit_or held (share function argument.1 (unwrap_or (value_of given argument) 0) register)

-- what a register has of all arguments
abbrev pub register_of : Form → List Given → ℕ → ℕ
register_of function given register = fold (with_share function given register) 0 function.arguments

abbrev pub registers : Form → List Given → List ℕ
registers function given =
    let x = register_of function given in function.number ∷ x 1 ∷ x 2 ∷ x 3 ∷ x 4 ∷ x 5 ∷ x 6 ∷ x 7 ∷ []

-- CALLS

-- an argument that isn't given and has to be would stand behind the last byte
abbrev pub is_missing : List Given → Argument → Bool
is_missing given argument = not (is_some (value_of given argument))

abbrev pub unless_missing : ℕ → Form → List Given → Option Argument → Result (List ℕ) WordsFault
unless_missing behind function given (Some argument) =
    Err (record { column = behind; cause = cause.Missing argument.0 })
unless_missing behind function given None = Ok (registers function given)

abbrev pub made : ℕ → Form → Result (List Given) WordsFault → Result (List ℕ) WordsFault
made behind function (Ok given) =
    unless_missing behind function given (find (is_missing given) function.arguments)
made behind function (Err fault) = Err fault

abbrev pub call_of : ℕ → List ℕ → List (List ℕ) → Option Form → Result (List ℕ) WordsFault
call_of behind name words None = Err (record { column = 6; cause = cause.UnknownCall })
call_of behind name words (Some function) = made behind function (givens function (length name + 7) [] words)

-- the registers of the call that words say behind `call `, a name and its arguments; `behind` is the column behind the line
abbrev pub called : ℕ → List (List ℕ) → Result (List ℕ) WordsFault
called behind [] = Err (record { column = 6; cause = cause.UnknownCall })
called behind (name ∷ words) = call_of behind name words (function_named name)

unfoldable pub call_in : List ℕ → Result (List ℕ) WordsFault
call_in text = called (length text + 6) (words_of text)

-- LINES

-- a line that names its call
abbrev pub is_named : List ℕ → Bool
is_named line = starts_with nat_eq line (codes "call FFA_")

-- the words but the first lose the mark of a hexadecimal number
abbrev pub unmarked : List (List ℕ) → List ℕ
unmarked [] = []
unmarked (name ∷ words) = name ++ flat_map (λ word. spaced (bare word)) words

-- what any other line comes to: a comment, or an empty line, is itself
unfoldable pub plain_line : List ℕ → List ℕ
plain_line line = if starts_with nat_eq line (hash ∷ []) then line else unmarked (words_of line)

-- WHAT FUNCTIONS ANSWER: memory may always be short

abbrev pub Gives : {X Y : Type 0} → (X → Y) → Result Y WordsFault → Result X LowerError → Type 0
Gives seen meant (Ok x) = meant ≡ Ok (seen x)
Gives seen meant (Err error.NoMemory) = ⊤
Gives seen meant (Err (error.Words fault)) = meant ≡ Err fault

abbrev pub Refuses : Result (List ℕ) WordsFault → LowerError → Type 0
Refuses meant error.NoMemory = ⊤
Refuses meant (error.Words fault) = meant ≡ Err fault
