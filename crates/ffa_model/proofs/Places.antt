-- SPDX-License-Identifier: MIT OR Apache-2.0
-- Identifiers of endpoints, and their places.
use Rattle.std.proofs.Common.{◌≡◌, ◌∙◌, ◌⊎◌, ℕ, zero, suc, ◌+◌, ◌-◌, ◌<◌, ◌≤◌, true, inl, inr, refl, sym, ap, arith, ◌==◌}
use Rattle.std.proofs.lemmas.Bool.{and_parts, eqb-true, ltb-true, or_cases}
use Rattle.std.proofs.lemmas.Bool.Decides.{nat_tests}
use Rattle.ffa_model.specs.Identifiers.{identifier, place}
use Rattle.ffa_model.specs.State.{is_partition_among, is_known_among}

-- an identifier's place gives it back
pub place-identifier : (i : ℕ) → place (identifier i) ≡ i
place-identifier zero = refl
place-identifier (suc i) = omega arith

pub same-identifier : (i j : ℕ) → identifier i ≡ identifier j → i ≡ j
same-identifier i j same = sym (place-identifier i) ∙ ap place same ∙ place-identifier j

-- a partition's identifier is above the manager's, and its place is an endpoint's
pub partition-place : (n e : ℕ) → is_partition_among n e ≡ true → (0x8000 < e) × (place e < n)
partition-place n e is =
    let (above, within) = and_parts _ _ is in
    (ltb-true 0x8000 e above, ltb-true (place e) n within)

pub partition-known : (n e : ℕ) → is_partition_among n e ≡ true → is_known_among n e ≡ true
partition-known n e is = grind (arith, nat_tests)

pub known-cases : (n e : ℕ) → is_known_among n e ≡ true → (e ≡ 0) ⊎ (is_partition_among n e ≡ true)
known-cases n e is = elim (or_cases (e == 0) (is_partition_among n e) is) [
  | inl first ↦ inl (eqb-true e 0 first)
  | inr partition ↦ inr partition
]

pub known-place : (n e : ℕ) → 1 ≤ n → is_known_among n e ≡ true → place e < n
known-place n e some is = elim (known-cases n e is) [
  | inl first ↦ omega arith
  | inr partition ↦ (partition-place n e partition).1
]

-- endpoints stand at different places
pub same-known : (n e f : ℕ) → is_known_among n e ≡ true → is_known_among n f ≡ true → place e ≡ place f → e ≡ f
same-known n e f known_e known_f same = elim (known-cases n e known_e) [
  | inl first ↦ (elim (known-cases n f known_f) [
    | inl first_f ↦ omega arith
    | inr partition_f ↦ (let (above, within) = partition-place n f partition_f in absurd (omega arith))
  ])
  | inr partition ↦ (let (above, within) = partition-place n e partition in
      elim (known-cases n f known_f) [
        | inl first_f ↦ absurd (omega arith)
        | inr partition_f ↦ (let (above_f, within_f) = partition-place n f partition_f in omega arith)
      ])
]

-- an endpoint is the one at its place
pub known-named : (n e : ℕ) → is_known_among n e ≡ true → identifier (place e) ≡ e
known-named n e is = elim (known-cases n e is) [
  | inl first ↦ ap (λ (f : ℕ). identifier (place f)) first ∙ sym first
  | inr partition ↦ above e (partition-place n e partition).0
]
  where
    above : (e : ℕ) → 0x8000 < e → identifier (place e) ≡ e
    above e over =
        let behind : place e ≡ suc (e - 0x8001) = omega arith in
        let back : 0x8001 + (e - 0x8001) ≡ e = omega arith in
        ap identifier behind ∙ back
