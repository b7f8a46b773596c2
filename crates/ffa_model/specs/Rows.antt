-- SPDX-License-Identifier: MIT OR Apache-2.0
-- What is told of each call by its identifier.
use Rattle.std.specs.Prelude.{ℕ, ◌==◌, nat_lt, Bool, ◌&&◌, ◌||◌, List, length, map, Option, find}
use Rattle.std.specs.List.{position_or_len}
use Rattle.std.specs.Borrow.{Bor}
use Rattle.ffa_model.specs.declared.refusal.Refusal.{Refusal}
use Rattle.ffa_model.specs.declared.rows.TheConstants.{CALLS}
use Rattle.ffa_model.specs.Registers.{wide_of}

-- a call: the identifier of its 32-bit form, its name, which registers its 64-bit form reads or answers whole, none where it has
-- no such form, and its checks in their order
pub record Row : Type 0 where
  pub function : ℕ
  pub name : List ℕ
  pub whole : List ℕ
  pub checks : List Refusal

abbrev pub rows : List Row
rows = map (λ row. record { function = row.0; name = row.1.now; whole = row.2.now; checks = row.3.now }) CALLS.now

-- what a row of the code's table tells
abbrev pub told : ℕ × Bor (List ℕ) × Bor (List ℕ) × Bor (List Refusal) → Row
told row = record { function = row.0; name = row.1.now; whole = row.2.now; checks = row.3.now }

abbrev pub is_wide : Row → Bool
is_wide row = nat_lt 0 (length row.whole)

abbrev pub is_row_of : ℕ → Row → Bool
is_row_of w0 row = w0 == row.function || (is_wide row && w0 == wide_of row.function)

-- the row of the call of which a number is the identifier, in either form that the call has
unfoldable pub row_of : ℕ → Option Row
row_of w0 = find (is_row_of w0) rows

-- its place among the rows; what is no call has the place behind them
unfoldable pub place_in_rows : ℕ → ℕ
place_in_rows w0 = position_or_len (is_row_of w0) rows
