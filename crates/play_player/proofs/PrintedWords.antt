-- SPDX-License-Identifier: MIT OR Apache-2.0
-- Words that printed lines are made of.
use Rattle.std.proofs.Common.{◌≡◌, ℕ, suc, zero, ◌+◌, ◌/◌, ◌%◌, ◌^◌, true, List, [], ◌∷◌, Option, None, Some, find, inl, inr, arith, refl, ◌==◌, nat_lt, slice_index}
use Rattle.std.specs.List.{list_all}
use Rattle.std.specs.Option.{option_map, option_map_or, option_or}
use Rattle.std.proofs.lemmas.Bool.{cases_Bool, and_parts, and_from}
use Rattle.ffa_model.specs.Registers.{low}
use Rattle.ffa_model.specs.Rows.{Row, is_row_of, row_of, rows}
use Rattle.play_trace.specs.TraceLines.{has_no_feed}
use Rattle.play_trace.specs.TraceText.{digit, hex}
use Rattle.ffa_abi.specs.Names.{Row as Name, answer_names, call_name_of, name_in}
use Rattle.play_player.proofs.Cuts.{is_inner, IsInner, inner_above}

inner_digit : (d : ℕ) → is_inner (digit d) ≡ true
inner_digit d =
    elim (cases_Bool (nat_lt d 10)) [
      | inl few ↦ rw few (inner_above (48 + d) (omega arith))
      | inr many ↦ rw many (inner_above (55 + d) (omega arith))
    ]

pub inner_hex : (n x : ℕ) → IsInner (hex n x)
inner_hex zero x = refl
inner_hex (suc n) x = and_from _ _ (inner_digit (x / 16 ^ n % 16)) (inner_hex n x)

-- the name of a call
pub single_in : (rows : List Name) (number : ℕ) → list_all (λ (row : Name). has_no_feed row.1) rows ≡ true → option_map_or has_no_feed (name_in rows number) true ≡ true
single_in [] number h = refl
single_in (row ∷ rows) number h =
    let parts = and_parts (has_no_feed row.1) (list_all (λ (row : Name). has_no_feed row.1) rows) h in
    elim (cases_Bool (row.0 == number)) [
      | inl here ↦ rw here parts.0
      | inr other ↦ rw other (single_in rows number parts.1)
    ]

single_or : (o p : Option (List ℕ)) → option_map_or has_no_feed o true ≡ true → option_map_or has_no_feed p true ≡ true → option_map_or has_no_feed (option_or o p) true ≡ true
single_or None p first second = second
single_or (Some name) p first second = first

single_row : (w0 : ℕ) (all : List Row) → list_all (λ (row : Row). has_no_feed row.name) all ≡ true
    → option_map_or has_no_feed (option_map (λ (row : Row). row.name) (find (is_row_of w0) all)) true ≡ true
single_row w0 [] h = refl
single_row w0 (row ∷ all) h =
    let parts = and_parts (has_no_feed row.name) (list_all (λ (it : Row). has_no_feed it.name) all) h in
    elim (cases_Bool (is_row_of w0 row)) [
      | inl here ↦ rw here parts.0
      | inr other ↦ rw other (single_row w0 all parts.1)
    ]

pub single_called : (w0 : ℕ) → option_map_or has_no_feed (option_map (λ (row : Row). row.name) (row_of w0)) true ≡ true
unfolding row_of
single_called w0 = single_row w0 rows refl

pub single_call : (x : List ℕ) → option_map_or has_no_feed (call_name_of x) true ≡ true
unfolding call_name_of row_of
single_call x =
    let w0 = low (slice_index x 0) in
    single_or (option_map (λ (row : Row). row.name) (find (is_row_of w0) rows)) (name_in answer_names w0) (single_row w0 rows refl) (single_in answer_names w0 refl)
