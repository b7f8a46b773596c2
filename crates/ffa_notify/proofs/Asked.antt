-- SPDX-License-Identifier: MIT OR Apache-2.0
-- The items of the classes that flags ask for.
use Rattle.std.proofs.Common.{◌≡◌, ◌∙◌, ℕ, ◌+◌, ◌-◌, ◌/◌, ◌^◌, ◌<◌, ◌≤◌, Bool, true, false, List, length, get_or, set, refl, sym, ap, arith, inl, inr, get_or-set_other, get_or-set_same}
use Rattle.std.specs.Prelude.{◌&&◌, nat_le, nat_lt, if◌then◌else◌}
use Rattle.std.proofs.lemmas.Bool.{cases_eq, cases_lt, eq-eqb, le-leb, le-ltb, lt-leb, lt-ltb, ne_eqb}
use Rattle.std.proofs.lemmas.Nat.Bits.{shr_and_one}
use lib.Bits.{bit_and}
use Rattle.ffa_model.specs.Bits.{is_set}
use Rattle.ffa_notify.specs.Stored.{is_asked}
use Rattle.ffa_notify.proofs.Bits.{is_set-at}

-- the flag of a class, as the code tests it
pub flag-set : (class flags : ℕ) → bit_and (flags / 2 ^ class) 1 ≡ 1 → is_set class flags ≡ true
flag-set class flags is = is_set-at class flags ∙ eq-eqb _ 1 (sym (shr_and_one flags class) ∙ is)

pub flag-unset : (class flags : ℕ) → (bit_and (flags / 2 ^ class) 1 ≡ 1 → ⊥) → is_set class flags ≡ false
flag-unset class flags is = is_set-at class flags ∙ ne_eqb _ 1 (λ e. is (shr_and_one flags class ∙ e))

one-more : (a b : ℕ) → (a ≡ b → ⊥) → nat_lt a (b + 1) ≡ nat_lt a b
one-more a b other = elim (cases_lt a b) [
  | inl lt ↦ lt-ltb a (b + 1) (omega arith) ∙ sym (lt-ltb a b lt)
  | inr le ↦ le-ltb a (b + 1) (omega arith) ∙ sym (le-ltb a b le)
]

asked-other : (first count flags k : ℕ) → (k ≡ first + count → ⊥) → is_asked first (count + 1) flags k ≡ is_asked first count flags k
asked-other first count flags k other =
    let behind : first + (count + 1) ≡ first + count + 1 = omega arith in
    ap (λ m. nat_le first k && (nat_lt k m && is_set (k - first) flags)) behind
    ∙ ap (λ b. nat_le first k && (b && is_set (k - first) flags)) (one-more k (first + count) other)

-- the item of a class of a receiver
pub asked-at : (first count class flags : ℕ) → class < count → is_asked first count flags (first + class) ≡ is_set class flags
asked-at first count class flags lt =
    let back : first + class - first ≡ class = omega arith in
    ap (λ b. b && (nat_lt (first + class) (first + count) && is_set (first + class - first) flags)) (le-leb first (first + class) (omega arith))
    ∙ ap (λ b. b && is_set (first + class - first) flags) (lt-ltb (first + class) (first + count) (omega arith))
    ∙ ap (λ j. is_set j flags) back

-- the item of another receiver
pub asked-before : (first count flags k : ℕ) → k < first → is_asked first count flags k ≡ false
asked-before first count flags k lt = ap (λ b. b && (nat_lt k (first + count) && is_set (k - first) flags)) (lt-leb first k lt)

pub asked-behind : (first count flags k : ℕ) → first + count ≤ k → is_asked first count flags k ≡ false
asked-behind first count flags k le =
    ap (λ b. nat_le first k && (b && is_set (k - first) flags)) (le-ltb k (first + count) le) ∙ neither (nat_le first k)
  where
    neither : (b : Bool) → (b && false) ≡ false
    neither true = refl
    neither false = refl

-- one class more
module _ {X : Type 0} (first count flags : ℕ) (empty : X) (old items : List X)
    (so_far : (k : ℕ) → get_or items k empty ≡ (if is_asked first count flags k then empty else get_or old k empty)) where
  other-item : (k : ℕ) → (k ≡ first + count → ⊥) → get_or items k empty ≡ (if is_asked first (count + 1) flags k then empty else get_or old k empty)
  other-item k other = so_far k ∙ ap (λ b. if b then empty else get_or old k empty) (sym (asked-other first count flags k other))

  pub asked-cleared : first + count < length items → is_set count flags ≡ true
      → (k : ℕ) → get_or (set items (first + count) empty) k empty ≡ (if is_asked first (count + 1) flags k then empty else get_or old k empty)
  asked-cleared within is k = elim (cases_eq k (first + count)) [
    | inl e ↦ (
        ap (λ j. get_or (set items (first + count) empty) j empty) e
        ∙ get_or-set_same items (first + count) empty empty within
        ∙ ap (λ b. if b then empty else get_or old k empty) (sym (ap (λ j. is_asked first (count + 1) flags j) e ∙ asked-at first (count + 1) count flags (omega arith) ∙ is)))
    | inr other ↦ get_or-set_other items (first + count) k empty empty other ∙ other-item k other
  ]

  pub asked-kept : is_set count flags ≡ false → (k : ℕ) → get_or items k empty ≡ (if is_asked first (count + 1) flags k then empty else get_or old k empty)
  asked-kept is k = elim (cases_eq k (first + count)) [
    | inl e ↦ (
        so_far k
        ∙ ap (λ b. if b then empty else get_or old k empty) (ap (λ j. is_asked first count flags j) e ∙ asked-behind first count flags (first + count) (omega arith))
        ∙ ap (λ b. if b then empty else get_or old k empty) (sym (ap (λ j. is_asked first (count + 1) flags j) e ∙ asked-at first (count + 1) count flags (omega arith) ∙ is)))
    | inr other ↦ other-item k other
  ]
