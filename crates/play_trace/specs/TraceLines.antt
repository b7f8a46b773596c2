-- SPDX-License-Identifier: MIT OR Apache-2.0
-- The lines of a trace: which bytes, without the LF that ends them, are which line.
use Rattle.std.specs.Prelude.{ℕ, ◌+◌, ◌-◌, ◌*◌, ◌==◌, Bool, not, ◌&&◌, ◌||◌, List, [], ◌∷◌, ◌++◌, length, replicate, drop, fold, codes, Option, Some, None, is_some, if◌then◌else◌, nat_eq, nat_lt, option_and_then, option_map, bytes_eq}
use Rattle.std.specs.Option.{option_or}
use Rattle.std.specs.List.{list_all, slice_split, starts_with}
use Rattle.ffa_model.specs.Manifest.{is_from_to}
use Rattle.ffa_model.specs.declared.operation.Op.{Op}
use Rattle.ffa_model.specs.declared.operation.Op.TheVariants.{Call, Load, Store, Fetch}
use Rattle.ffa_model.specs.declared.operation.Size.{Size}
use Rattle.ffa_model.specs.declared.operation.Size.TheVariants.{B1, B2, B4, B8}

-- LF ends a line, a space stands between two words, and `#` begins a comment
abbrev pub feed : ℕ
feed = 10

abbrev pub space : ℕ
space = 32

abbrev pub hash : ℕ
hash = 35

-- an operation of the runner, the table of accesses, the certificate, or nothing; and where several processors run the machine,
-- the turn of one, or an interrupt that the one on turn takes
pub data Line : Type 0 where
  operate : (op : Op) → Line
  show : Line
  audit : Line
  skip : Line
  turn : (processor : ℕ) → Line
  interrupt : Line

-- NUMBERS

-- the value of a hexadecimal digit, of either case
unfoldable pub digit_value : ℕ → Option ℕ
digit_value c =
    if is_from_to 48 57 c then Some (c - 48)
    else if is_from_to 65 70 c then Some (c - 55)
    else if is_from_to 97 102 c then Some (c - 87)
    else None

-- a number with one more digit behind
abbrev pub with_digit : Option ℕ → ℕ → Option ℕ
with_digit number c = option_and_then (λ n. option_map (λ d. 16 * n + d) (digit_value c)) number

-- the number that 1 to 16 digits write
unfoldable pub number_of : List ℕ → Option ℕ
number_of word = if is_from_to 1 16 (length word) then fold with_digit (Some 0) word else None

-- a word without `0x` or `0X` in front, which no line of a trace has
abbrev pub bare : List ℕ → List ℕ
bare word = if starts_with nat_eq word (codes "0x") || starts_with nat_eq word (codes "0X") then drop 2 word else word

-- the number that at most so many digits write, with such a mark before them or without
unfoldable pub number_in : ℕ → List ℕ → Option ℕ
number_in most word = if is_from_to 1 most (length (bare word)) then fold with_digit (Some 0) (bare word) else None

-- the numbers that words write, one each
abbrev pub numbers_of : List (List ℕ) → Option (List ℕ)
numbers_of [] = Some []
numbers_of (word ∷ words) = option_and_then (λ n. option_map (λ ns. n ∷ ns) (numbers_of words)) (number_of word)

-- LINES

-- what stands before, between and behind the spaces of a line: exactly one space parts two words, since a second one
-- would make an empty word, which is neither a name nor a number
unfoldable pub words_of : List ℕ → List (List ℕ)
words_of line = slice_split (λ c. c == space) line

-- registers that aren't given are 0
abbrev pub registers_of : List ℕ → List ℕ
registers_of given = given ++ replicate (8 - length given) 0

-- how many bytes to load
unfoldable pub size_named : List ℕ → Option Size
size_named word =
    if bytes_eq word (codes "1") then Some B1
    else if bytes_eq word (codes "2") then Some B2
    else if bytes_eq word (codes "4") then Some B4
    else if bytes_eq word (codes "8") then Some B8
    else None

-- how many bytes to store, by the count of the value's digits
unfoldable pub size_written : List ℕ → Option Size
size_written word =
    if length word == 2 then Some B1
    else if length word == 4 then Some B2
    else if length word == 8 then Some B4
    else if length word == 16 then Some B8
    else None

-- `call X0 .. X7`, of which 1 to 8 are given
unfoldable pub call_of : List (List ℕ) → Option Line
call_of words =
    if is_from_to 1 8 (length words)
    then option_map (λ given. operate (Call (registers_of given))) (numbers_of words)
    else None

-- `load A N`
unfoldable pub load_of : List (List ℕ) → Option Line
load_of (a ∷ n ∷ []) =
    option_and_then (λ addr. option_map (λ size. operate (Load addr size)) (size_named n)) (number_of a)
load_of _ = None

-- `store A V`
unfoldable pub store_of : List (List ℕ) → Option Line
store_of (a ∷ v ∷ []) =
    option_and_then (λ addr.
    option_and_then (λ size. option_map (λ value. operate (Store addr size value)) (number_of v)) (size_written v))
    (number_of a)
store_of _ = None

-- `fetch A`
unfoldable pub fetch_of : List (List ℕ) → Option Line
fetch_of (a ∷ []) = option_map (λ addr. operate (Fetch addr)) (number_of a)
fetch_of _ = None

-- `show`
unfoldable pub show_of : List (List ℕ) → Option Line
show_of [] = Some show
show_of _ = None

-- `audit`
unfoldable pub audit_of : List (List ℕ) → Option Line
audit_of [] = Some audit
audit_of _ = None

-- a name and what follows it
unfoldable pub command_of : List (List ℕ) → Option Line
command_of [] = None
command_of (name ∷ words) =
    if bytes_eq name (codes "call") then call_of words
    else if bytes_eq name (codes "load") then load_of words
    else if bytes_eq name (codes "store") then store_of words
    else if bytes_eq name (codes "fetch") then fetch_of words
    else if bytes_eq name (codes "show") then show_of words
    else if bytes_eq name (codes "audit") then audit_of words
    else None

-- the line that these bytes are, if they are one: an empty line and a comment say nothing
unfoldable pub line_of : List ℕ → Option Line
line_of [] = Some skip
line_of (c ∷ bytes) = if c == hash then Some skip else command_of (words_of (c ∷ bytes))

-- SEVERAL PROCESSORS

-- `on N`, of so many processors
unfoldable pub turn_of : ℕ → List (List ℕ) → Option Line
turn_of count (n ∷ []) = option_and_then (λ p. if nat_lt p count then Some (turn p) else None) (number_of n)
turn_of count _ = None

-- `interrupt`
unfoldable pub interrupt_of : List (List ℕ) → Option Line
interrupt_of [] = Some interrupt
interrupt_of _ = None

-- a name and what follows it, in a trace of so many processors
abbrev pub act_of : ℕ → List (List ℕ) → Option Line
act_of count [] = None
act_of count (name ∷ words) =
    if bytes_eq name (codes "on") then turn_of count words
    else if bytes_eq name (codes "interrupt") then interrupt_of words
    else None

-- the line that these bytes are in a trace of so many processors, or where one alone runs the machine
unfoldable pub line_in : Option ℕ → List ℕ → Option Line
line_in None bytes = line_of bytes
line_in (Some count) bytes = option_or (line_of bytes) (act_of count (words_of bytes))

-- whether the bytes are a line that is taken, where they have no LF
abbrev pub is_good : Option ℕ → List ℕ → Bool
is_good processors bytes = is_some (line_in processors bytes)

-- INPUTS

abbrev pub has_no_feed : List ℕ → Bool
has_no_feed bytes = list_all (λ c. not (c == feed)) bytes

abbrev pub is_line : Option ℕ → List ℕ → Bool
is_line processors bytes = has_no_feed bytes && is_good processors bytes

abbrev pub are_lines : Option ℕ → List (List ℕ) → Bool
are_lines processors lines = list_all (is_line processors) lines

-- lines, each with the LF that ends it
abbrev pub joined : List (List ℕ) → List ℕ
joined [] = []
joined (line ∷ lines) = line ++ feed ∷ joined lines
