-- SPDX-License-Identifier: MIT OR Apache-2.0
-- FOR PROOFS ALONE
-- Control characters: those below 20, and 7F. TOML allows a tab, and the ends of lines, which are LF and CR LF.
use Rattle.std.specs.Prelude.{ℕ, Bool, ◌||◌, ◌&&◌, ◌==◌, not, nat_le, List, [], ◌∷◌, Option, None, Some, if◌then◌else◌}

abbrev pub is_control : ℕ → Bool
is_control byte = not (nat_le 0x20 byte) || byte == 0x7F

-- whether a line ends with this byte, by what stands behind it
abbrev pub ends_line : ℕ → List ℕ → Bool
ends_line byte [] = byte == 10
ends_line byte (next ∷ rest) = byte == 10 || (byte == 13 && next == 10)

-- the first byte, where it is a control character that TOML does not allow
abbrev pub forbidden_control : List ℕ → Option ℕ
forbidden_control [] = None
forbidden_control (byte ∷ rest) = if is_control byte && not (byte == 9 || ends_line byte rest) then Some byte else None
