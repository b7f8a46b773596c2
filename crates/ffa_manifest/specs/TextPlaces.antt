-- SPDX-License-Identifier: MIT OR Apache-2.0
-- Where a byte of a text stands, by the bytes before it: its line, which LF ends, and its column, of which each character is
-- one. Of a character's bytes in UTF-8 all but the first are 80 to BF.
use Rattle.std.specs.Prelude.{ℕ, ◌+◌, Bool, ◌||◌, ◌&&◌, ◌==◌, not, nat_le, List, [], ◌∷◌, count_by, if◌then◌else◌}
use Rattle.std.specs.List.{list_any}

abbrev pub is_line_end : ℕ → Bool
is_line_end b = b == 10

abbrev pub is_first_byte : ℕ → Bool
is_first_byte b = not (nat_le 0x80 b && nat_le b 0xBF)

-- what stands behind the last LF
abbrev pub last_line : List ℕ → List ℕ
last_line [] = []
last_line (b ∷ bs) = if is_line_end b || list_any is_line_end bs then last_line bs else b ∷ bs

-- both count from 1
abbrev pub line_behind : List ℕ → ℕ
line_behind before = 1 + count_by is_line_end before

abbrev pub column_behind : List ℕ → ℕ
column_behind before = 1 + count_by is_first_byte (last_line before)
