-- SPDX-License-Identifier: MIT OR Apache-2.0
-- Which registers a call reads whole: in its 64-bit form those that the table of functions calls x (DEN0028, 2; DEN0077A, 11).
-- Of every other it reads the low half.
use Rattle.std.specs.Prelude.{ℕ, Bool, false, ◌&&◌, List, slice_index}
use Rattle.std.specs.Option.{option_map_or}
use Rattle.std.specs.List.{list_any}
use Rattle.std.specs.Prelude.{◌==◌}
use Rattle.ffa_model.specs.Bits.{is_set}
use Rattle.ffa_model.specs.Registers.{low}
use Rattle.ffa_model.specs.Rows.{row_of}

-- by its number, whether the 64-bit form of a call has it among these
abbrev pub is_widened : ℕ → ℕ → Bool
is_widened w0 register = option_map_or (λ row. list_any (λ whole. whole == register) row.whole) (row_of w0) false

-- the identifier of the 64-bit form has bit 30 set
unfoldable pub is_read_whole : List ℕ → ℕ → Bool
is_read_whole x register = is_set 30 (low (slice_index x 0)) && is_widened (low (slice_index x 0)) register
