-- SPDX-License-Identifier: MIT OR Apache-2.0
-- The short words of what an operation comes to.
use Rattle.std.specs.Prelude.{ℕ, ◌==◌, nat_lt, List, [], ◌∷◌, ◌++◌, codes, drop, Option, None, Some, slice_index, if◌then◌else◌}
use Rattle.std.specs.List.{flat_map, list_all}
use Rattle.ffa_abi.specs.Names.{call_name_of}
use Rattle.play_trace.specs.TraceText.{hex, spaced}

-- digits without the zeros in front, but one digit at least
abbrev pub cut_zeros : List ℕ → List ℕ
cut_zeros [] = []
cut_zeros (c ∷ []) = c ∷ []
cut_zeros (c ∷ d ∷ word) = if c == 48 then cut_zeros (d ∷ word) else c ∷ d ∷ word

-- a number in as many hexadecimal digits as it has
unfoldable pub short_number : ℕ → List ℕ
short_number value = cut_zeros (hex 16 value)

-- registers without the last ones that are 0
abbrev pub filled : List ℕ → List ℕ
filled [] = []
filled (v ∷ rest) = if list_all (λ w. w == 0) (v ∷ rest) then [] else v ∷ filled rest

abbrev pub name_or : Option (List ℕ) → List ℕ → List ℕ
name_or None other = other
name_or (Some name) other = name

-- The first register as a name, where it has one, and else as a number. The identifiers of 64-bit forms, which begin at
-- C0000000, share names with those of 32 bits, and so stay numbers.
unfoldable pub function_word : List ℕ → List ℕ
function_word x =
    let number = short_number (slice_index x 0) in
    if nat_lt (slice_index x 0) 0xC0000000 then name_or (call_name_of x) number else number

-- who runs next, and the registers that it sees
unfoldable pub short_registers : ℕ → List ℕ → List ℕ
short_registers runner x =
    hex 4 runner ++ codes ": " ++ function_word x ++ flat_map (λ v. spaced (short_number v)) (filled (drop 1 x))

-- what was loaded or fetched
unfoldable pub short_data : ℕ → List ℕ
short_data value = codes "data" ++ spaced (short_number value)
