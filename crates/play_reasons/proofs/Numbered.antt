-- SPDX-License-Identifier: MIT OR Apache-2.0
-- The first check that fails has a number.
use Rattle.std.proofs.Common.{◌≡◌, ℕ, ◌<◌, ◌-◌, Bool, true, false, cond, List, [], ◌∷◌, length, map, Option, Some, inl, inr, ap, arith, find, refl, subst}
use Rattle.std.specs.Prelude.{◌==◌, ◌&&◌, ◌||◌, is_some, nat_lt, not, slice_index}
use Rattle.std.specs.List.{flat_map, list_all, prefix_len}
use Rattle.std.specs.Option.{option_map_or}
use Rattle.std.proofs.lemmas.Bool.{and_parts, cases_Bool, eq-eqb, eqb-true, lt-ltb, ltb-true, not-false}
use Rattle.ffa_model.specs.declared.refusal.Refusal.{Refusal}
use Rattle.ffa_model.specs.Calls.{first_refusal}
use Rattle.ffa_model.specs.State.{State}
use Rattle.ffa_model.specs.declared.refusal.Refusal.TheVariants.{FunctionUnknown}
use Rattle.ffa_model.specs.HypervisorRetrieve.{asks_back}
use Rattle.ffa_model.specs.Registers.{Function, called, decode, functions, is_form_of, low, transfer, wide_of}
use Rattle.ffa_model.specs.Rows.{Row, is_row_of, is_wide, row_of, rows}
use Rattle.ffa_model.specs.Step.{service}
use Rattle.ffa_model.specs.Words.{place_of}
use Rattle.ffa_model.specs.Checks.{checks_of, for_hypervisor, for_receiver, in_order, is_of_reading, made}
use Rattle.ffa_model.proofs.Served.{AreAll, ◌▸◌, found-all, listed}
use Rattle.play_reasons.specs.Checks.{number_of, place_number}

-- how many checks of a list stand before one of this name
abbrev before : Refusal → List Refusal → ℕ
before refusal all = prefix_len (λ check. not (place_of check == place_of refusal)) all

before_behind : (x : Refusal) (xs : List Refusal) (refusal : Refusal) → before refusal xs < length xs → before refusal (x ∷ xs) < length (x ∷ xs)
before_behind x xs refusal inside =
    elim (cases_Bool (not (place_of x == place_of refusal))) [
      | inl other ↦ rw other (omega arith)
      | inr same ↦ rw same (omega arith)
    ]

before_here : (x : Refusal) (xs : List Refusal) (refusal : Refusal) → x ≡ refusal → before refusal (x ∷ xs) < length (x ∷ xs)
before_here x xs refusal same =
    let equal : not (place_of x == place_of refusal) ≡ false = ap not (eq-eqb (place_of x) (place_of refusal) (ap place_of same)) in
    rw equal (omega arith)

-- the guards of some names have their first failure among the checks of a list
abbrev AreInside : List Refusal → List Refusal → Refusal → Type 0
AreInside names all refusal =
    (guards : List (Bool × Refusal)) → map (λ guard. guard.1) guards ≡ names → first_refusal guards ≡ Some refusal → before refusal all < length all

none_inside : (all : List Refusal) (refusal : Refusal) → AreInside [] all refusal
none_inside all refusal [] same first = absurd cc
none_inside all refusal (guard ∷ guards) same first = absurd cc

one_more_inside : (x : Refusal) (names xs : List Refusal) (refusal : Refusal) → AreInside names xs refusal → AreInside (x ∷ names) (x ∷ xs) refusal
one_more_inside x names xs refusal inside [] same first = absurd cc
one_more_inside x names xs refusal inside (guard ∷ guards) same first =
    elim (cases_Bool guard.0) [
      | inl passes ↦ before_behind x xs refusal (inside guards tail (rw passes at first))
      | inr fails ↦ before_here x xs refusal (named (rw fails at first))
    ]
  where
    tail : map (λ g. g.1) guards ≡ names
    tail = cc

    named : Some guard.1 ≡ Some refusal → x ≡ refusal
    named is = cc

before_inside : (read : ℕ) (all : List Refusal) (refusal : Refusal) → AreInside (made read all) all refusal
before_inside read [] refusal = none_inside [] refusal
before_inside read (x ∷ xs) refusal =
    elim (cases_Bool (is_of_reading x)) [
      | inl reading ↦ elim (cases_Bool (read == 0)) [
        | inl last ↦ rw (reading, last) (one_more_inside x [] xs refusal (none_inside xs refusal))
        | inr more ↦ rw (reading, more) (λ guards same first. before_behind x xs refusal (before_inside (read - 1) xs refusal guards same first))
      ]
      | inr other ↦ rw other (one_more_inside x (made read xs) xs refusal (before_inside read xs refusal))
    ]

number_some : (all : List Refusal) (refusal : Refusal) → before refusal all < length all → is_some (place_number all refusal) ≡ true
number_some all refusal inside = rw (lt-ltb (before refusal all) (length all) inside) refl

-- ---- what a row lists and what is made in order are of the same checks
abbrev is_inside : List Refusal → Refusal → Bool
is_inside all check = nat_lt (before check all) (length all)

-- a check of the first list, each of whose checks is in the other, is there too
inside-of : (names all : List Refusal) (refusal : Refusal) → list_all (is_inside all) names ≡ true → before refusal names < length names → before refusal all < length all
inside-of [] all refusal are inside = absurd (omega (arith, inside))
inside-of (x ∷ xs) all refusal are inside =
    elim (cases_Bool (not (place_of x == place_of refusal))) [
      | inl other ↦ inside-of xs all refusal (and_parts _ _ are).1 (let more = (rw other at inside) in omega (arith, more))
      | inr same ↦
          subst (λ (n : ℕ). prefix_len (λ check. not (place_of check == n)) all < length all) (eqb-true (place_of x) (place_of refusal) (not-false _ same))
          (ltb-true _ _ (and_parts _ _ are).0)
    ]

-- so of a function and its row
abbrev IsOfRow : Function → Row → Type 0
IsOfRow f row = (s : State) (w x : ℕ → ℕ) → list_all (is_inside row.checks) (in_order s (f.call w x) row.checks) ≡ true

abbrev retrieve-row : List Refusal
retrieve-row = checks_of 0x84000074

of-retrieve : (back : Bool) → list_all (is_inside retrieve-row) (flat_map (cond back for_hypervisor for_receiver) retrieve-row) ≡ true
unfolding row_of
of-retrieve true = refl
of-retrieve false = refl

are-of-rows : AreAll IsOfRow functions rows
unfolding row_of
are-of-rows =
    (λ s w x. refl)
    ▸ (λ s w x. refl)
    ▸ (λ s w x. refl)
    ▸ (λ s w x. refl)
    ▸ (λ s w x. refl)
    ▸ (λ s w x. refl)
    ▸ (λ s w x. refl)
    ▸ (λ s w x. refl)
    ▸ (λ s w x. refl)
    ▸ (λ s w x. refl)
    ▸ (λ s w x. refl)
    ▸ (λ s w x. refl)
    ▸ (λ s w x. refl)
    ▸ (λ s w x. refl)
    ▸ (λ s w x. refl)
    ▸ (λ s w x. of-retrieve (asks_back s (transfer w x)))
    ▸ (λ s w x. refl)
    ▸ (λ s w x. refl)
    ▸ (λ s w x. refl)
    ▸ (λ s w x. refl)
    ▸ (λ s w x. refl)
    ▸ (λ s w x. refl)
    ▸ (λ s w x. refl)
    ▸ (λ s w x. refl)
    ▸ (λ s w x. refl)
    ▸ (λ s w x. refl)
    ▸ (λ s w x. refl)
    ▸ tt

abbrev IsIn : State → List ℕ → Option Function → Option Row → Type 0
IsIn s x o row = (let all = option_map_or (λ (r : Row). r.checks) row (FunctionUnknown ∷ []) in list_all (is_inside all) (in_order s (called x o) all) ≡ true)

of-row : (s : State) (x : List ℕ) → list_all (is_inside (checks_of (low (slice_index x 0)))) (in_order s (decode x) (checks_of (low (slice_index x 0)))) ≡ true
unfolding decode
of-row s x = found-all IsOfRow (low (slice_index x 0)) (IsIn s x) refl (λ f row is form. is s _ _) are-of-rows

pub numbered : (s : State) (x : List ℕ) (refusal : Refusal) → first_refusal (service s (decode x)).guards ≡ Some refusal
    → is_some (number_of (low (slice_index x 0)) refusal) ≡ true
numbered s x refusal first =
    let all = checks_of (low (slice_index x 0)) in
    let are = listed s x in
    number_some all refusal (inside-of (in_order s (decode x) all) all refusal (of-row s x)
    (before_inside are.0 (in_order s (decode x) all) refusal (service s (decode x)).guards are.1 first))
