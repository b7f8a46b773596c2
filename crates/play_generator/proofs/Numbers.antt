-- SPDX-License-Identifier: MIT OR Apache-2.0
-- A check's number is one of the first 16.
use Rattle.std.proofs.Common.{◌≡◌, ℕ, ◌≤◌, true, List, [], ◌∷◌, length, find, inl, inr, refl, arith, ◌==◌, IfSome, nat_le, nat_lt}
use Rattle.std.specs.List.{list_all, position_or_len}
use Rattle.std.specs.Option.{option_map_or}
use Rattle.std.proofs.lemmas.Bool.{and_parts, cases_Bool, leb-true, ltb-true}
use Rattle.ffa_model.specs.declared.refusal.Refusal.{Refusal}
use Rattle.ffa_model.specs.declared.refusal.Refusal.TheVariants.{FunctionUnknown}
use Rattle.ffa_model.specs.Checks.{checks_of}
use Rattle.ffa_model.specs.Rows.{Row, is_row_of, row_of, rows}
use Rattle.ffa_model.specs.Words.{place_of}
use Rattle.play_reasons.specs.Checks.{number_of}

few_in : (w0 : ℕ) (all : List Row) → list_all (λ (row : Row). nat_le (length row.checks) 16) all ≡ true
    → length (option_map_or (λ (row : Row). row.checks) (find (is_row_of w0) all) (FunctionUnknown ∷ [])) ≤ 16
few_in w0 [] are = omega arith
few_in w0 (row ∷ all) are =
    let parts = and_parts (nat_le (length row.checks) 16) (list_all (λ (it : Row). nat_le (length it.checks) 16) all) are in
    elim (cases_Bool (is_row_of w0 row)) [
      | inl here ↦ rw here (leb-true (length row.checks) 16 parts.0)
      | inr other ↦ rw other (few_in w0 all parts.1)
    ]

few_checks : (w0 : ℕ) → length (checks_of w0) ≤ 16
unfolding row_of
few_checks w0 = few_in w0 rows refl

pub number-some : (w0 : ℕ) (refusal : Refusal) → IfSome (number_of w0 refusal) (λ number. 1 ≤ number)
number-some w0 refusal =
    elim (cases_Bool (nat_lt (position_or_len (λ check. place_of check == place_of refusal) (checks_of w0)) (length (checks_of w0)))) [
      | inl inside ↦ rw inside (omega arith)
      | inr behind ↦ rw behind tt
    ]

pub number-few : (w0 : ℕ) (refusal : Refusal) → IfSome (number_of w0 refusal) (λ number. number ≤ 16)
number-few w0 refusal =
    elim (cases_Bool (nat_lt (position_or_len (λ check. place_of check == place_of refusal) (checks_of w0)) (length (checks_of w0)))) [
      | inl inside ↦ rw inside (omega (arith, ltb-true (position_or_len (λ check. place_of check == place_of refusal) (checks_of w0)) (length (checks_of w0)) inside, few_checks w0))
      | inr behind ↦ rw behind tt
    ]
