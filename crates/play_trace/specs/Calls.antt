-- SPDX-License-Identifier: MIT OR Apache-2.0
-- Calls by their names, which stand in the calls' one table, and their arguments, which stand in another: ARGUMENTS, with where
-- the number of each stands in the registers (DEN0077A, 11 to 16).
use Rattle.std.specs.Prelude.{ℕ, ◌-◌, ◌%◌, ◌^◌, ◌==◌, Bool, false, true, List, codes, drop, find, length, map, take, Option, None, Some, option_map, option_and_then, if◌then◌else◌, bytes_eq}
use Rattle.ffa_model.specs.Registers.{wide_of}
use Rattle.ffa_model.specs.Rows.{Row, rows}
use Rattle.play_trace.specs.declared.arguments.TheConstants.{ARGUMENTS}
use Rattle.play_trace.specs.declared.arguments.Place.{Place}
use Rattle.play_trace.specs.declared.arguments.Usual.{Usual}
use Rattle.play_trace.specs.declared.function.Function.{Function}
use Rattle.play_trace.specs.declared.name.Name.{Name}

-- an argument: its name, where its number stands, the largest that it may be in the 32-bit form, and what stands for it
abbrev pub Argument : Type 0
Argument = Name × Place × ℕ × Usual

-- a call in one of its forms: the identifier of its 32-bit form, that of this form, whether it is the 64-bit one, the
-- registers that the 64-bit form reads or answers whole, and the arguments
pub record Form : Type 0 where
  pub narrow : ℕ
  pub number : ℕ
  pub is_wide : Bool
  pub whole : List ℕ
  pub arguments : List Argument

abbrev pub form_of : Function → Form
form_of f = record {
  narrow = f.narrow;
  number = f.number;
  is_wide = f.is_wide;
  whole = f.whole.now;
  arguments = f.arguments.now;
}

unfoldable pub row_named : List ℕ → Option Row
row_named name = find (λ row. bytes_eq row.name name) rows

-- the arguments of each call, by the identifier of its 32-bit form
abbrev pub argument_rows : List (ℕ × List Argument)
argument_rows = map (λ row. (row.0, row.1.now)) ARGUMENTS.now

unfoldable pub arguments_of : ℕ → Option (List Argument)
arguments_of function = option_map (λ row. row.1) (find (λ row. row.0 == function) argument_rows)

-- what stands before `_64` at the end of a name
abbrev pub front_of : List ℕ → Option (List ℕ)
front_of name =
    if bytes_eq (drop (length name - 3) name) (codes "_64") then Some (take (length name - 3) name) else None

-- a call in its 64-bit form or its other
abbrev pub in_form : Bool → Row → Option Form
in_form is_wide row =
    option_map
    (λ arguments. record {
      narrow = row.function;
      number = if is_wide then wide_of row.function % 2 ^ 32 else row.function;
      is_wide = is_wide;
      whole = row.whole;
      arguments = arguments;
    })
    (arguments_of row.function)

-- where it has such a form
abbrev pub in_wide_form : Row → Option Form
in_wide_form row = if length row.whole == 0 then None else in_form true row

abbrev pub in_either : Option Row → Option Row → Option Form
in_either (Some row) front = in_form false row
in_either None front = option_and_then in_wide_form front

-- the call of a name, behind which `_64` stands for the 64-bit form
unfoldable pub function_named : List ℕ → Option Form
function_named name = in_either (row_named name) (option_and_then row_named (front_of name))
