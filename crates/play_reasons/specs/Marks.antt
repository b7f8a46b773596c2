-- SPDX-License-Identifier: MIT OR Apache-2.0
-- What stands in the text of a line beside its own words.
use Rattle.std.specs.Prelude.{ℕ, List, [], ◌++◌, codes, decimal}
use Rattle.std.specs.Option.{option_map_or}
use Rattle.play_trace.specs.TraceText.{spaced}
use Rattle.ffa_abi.specs.Names.{call_name_of, error_name_of}

-- the number of a line, as its text begins with it
abbrev pub number_mark : ℕ → List ℕ
number_mark number = decimal number ++ codes ": "

-- what stands behind registers: the name of the call that they are, and of the error
abbrev pub names_mark : List ℕ → List ℕ
names_mark x =
    option_map_or (λ name. codes " # " ++ name ++ option_map_or spaced (error_name_of x) []) (call_name_of x) []
