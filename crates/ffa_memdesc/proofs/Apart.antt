-- SPDX-License-Identifier: MIT OR Apache-2.0
-- Ranges that are apart: in order, and in another order.
use Rattle.std.proofs.Common.{◌≡◌, ℕ, zero, suc, ◌+◌, ◌<◌, ◌≤◌, Bool, true, List, [], ◌∷◌, length, get_or, take, refl, sym, subst, arith, inl, inr}
use Rattle.std.specs.List.{list_all, swap}
use Rattle.std.specs.List.Sorted.{IsPermutation}
use Rattle.std.proofs.lemmas.Bool.{and_from, cases_eq, cases_lt}
use Rattle.std.proofs.lemmas.List.Sorted.{IsPermutation-keeps, IsPermutation-sym}
use Rattle.std.proofs.lemmas.List.Edits.{swapped_from_swap, length-swap}
use Rattle.std.proofs.lemmas.Grind.{common_steps}
use Rattle.ffa_model.specs.declared.transaction.Range.{Range}
use Rattle.ffa_model.specs.SendDescriptor.{are_apart, range_end}
use Rattle.ffa_memdesc.specs.Reading.{AreApart, IsApartAt}

-- the first n of some ranges end up to a place
pub record IsBelow (ranges : List Range) (n end : ℕ) : Type 0 where
  pub below : (i : ℕ) (d : Range) → i < n → range_end (get_or ranges i d) ≤ end

-- each of the first n ends before each later one of them begins
pub record EndsBefore (ranges : List Range) (n : ℕ) : Type 0 where
  pub before : (i j : ℕ) (d : Range) → i < j → j < n → range_end (get_or ranges i d) ≤ (get_or ranges j d).address

pub below_none : (ranges : List Range) (end : ℕ) → IsBelow ranges 0 end
below_none ranges end = record { below = λ i d lt. absurd (omega arith) }

pub before_none : (ranges : List Range) → EndsBefore ranges 0
before_none ranges = record { before = λ i j d lt few. absurd (omega arith) }

pub below_more : (ranges : List Range) (n end : ℕ) → IsBelow ranges n end → ((d : Range) → end ≤ (get_or ranges n d).address)
    → (last : ℕ) → ((d : Range) → last ≡ range_end (get_or ranges n d)) → IsBelow ranges (n + 1) last
below_more ranges n end known behind last is = record {
  below = λ i d lt. elim (cases_lt i n) [
    | inl less ↦ (let h = known.below i d less in let k = behind d in let e = is d in omega arith)
    | inr le ↦ (let same : i ≡ n = omega arith in subst (λ (k : ℕ). range_end (get_or ranges k d) ≤ last) (sym same) (let e = is d in omega arith))
  ];
}

pub before_more : (ranges : List Range) (n end : ℕ) → IsBelow ranges n end → EndsBefore ranges n → ((d : Range) → end ≤ (get_or ranges n d).address) → EndsBefore ranges (n + 1)
before_more ranges n end known ordered behind = record {
  before = λ i j d lt few. elim (cases_lt j n) [
    | inl less ↦ ordered.before i j d lt less
    | inr le ↦ (let same : j ≡ n = omega arith in subst (λ (k : ℕ). range_end (get_or ranges i d) ≤ (get_or ranges k d).address) (sym same)
        (let h = known.below i d (omega arith) in let k = behind d in omega arith))
  ];
}

le-apart : (a b : Range) → range_end b ≤ a.address → are_apart a b ≡ true
le-apart a b le = grind (arith, common_steps)

pub in_order_apart : (ranges : List Range) (n : ℕ) → n ≡ length ranges → EndsBefore ranges n → AreApart ranges
in_order_apart ranges n all ordered = λ i j d lt few. le-apart _ _ (ordered.before i j d lt (omega arith))

also-apart : (a b : Range) → are_apart a b ≡ true → are_apart b a ≡ true
also-apart a b e = grind (arith, common_steps)

-- each two are apart, whichever stands first
abbrev AllApart : Range → List Range → Type 0
AllApart d ranges = (i j : ℕ) → i < length ranges → j < length ranges → (i ≡ j → ⊥) → are_apart (get_or ranges j d) (get_or ranges i d) ≡ true

all_apart : (d : Range) (ranges : List Range) → AreApart ranges → AllApart d ranges
all_apart d ranges apart = λ i j inside behind other. elim (cases_lt i j) [
  | inl less ↦ apart i j d less behind
  | inr le ↦ also-apart (get_or ranges i d) (get_or ranges j d) (apart j i d (omega arith) inside)
]

-- where an element stood before two changed their places
record StoodAt (ranges : List Range) (a b i s : ℕ) (d : Range) : Type 0 where
  inside : s < length ranges
  same : get_or (swap ranges a b) i d ≡ get_or ranges s d
  at_a : i ≡ a → s ≡ b
  at_b : i ≡ b → s ≡ a
  else : (i ≡ a → ⊥) → (i ≡ b → ⊥) → s ≡ i

stood : (d : Range) (ranges : List Range) (a b i : ℕ) → a < length ranges → b < length ranges → i < length ranges → (s : ℕ) × StoodAt ranges a b i s d
stood d ranges a b i la lb li =
    let (first, second, rest) = swapped_from_swap ranges (swap ranges a b) a b d la lb refl in
    elim (cases_eq i a) [
      | inl e ↦ (b, record { inside = lb; same = subst (λ (k : ℕ). get_or (swap ranges a b) k d ≡ get_or ranges b d) (sym e) first; at_a = λ _. refl; at_b = λ h. omega arith; else = λ h _. absurd (h e) })
      | inr n ↦ elim (cases_eq i b) [
        | inl e ↦ (a, record { inside = la; same = subst (λ (k : ℕ). get_or (swap ranges a b) k d ≡ get_or ranges a d) (sym e) second; at_a = λ h. absurd (n h); at_b = λ _. refl; else = λ _ h. absurd (h e) })
        | inr m ↦ (i, record { inside = li; same = rest i n m; at_a = λ h. absurd (n h); at_b = λ h. absurd (m h); else = λ _ _. refl })
      ]
    ]

-- two that stood at one place are one
one_place : (a b i j s t : ℕ) → (i ≡ a → s ≡ b) → (i ≡ b → s ≡ a) → ((i ≡ a → ⊥) → (i ≡ b → ⊥) → s ≡ i)
    → (j ≡ a → t ≡ b) → (j ≡ b → t ≡ a) → ((j ≡ a → ⊥) → (j ≡ b → ⊥) → t ≡ j) → s ≡ t → i ≡ j
one_place a b i j s t ia ib ie ja jb je e =
    elim (cases_eq i a) [
      | inl x ↦ elim (cases_eq j a) [
        | inl y ↦ omega arith
        | inr n ↦ elim (cases_eq j b) [
          | inl y ↦ omega arith
          | inr m ↦ (let u = ia x in let v = je n m in omega arith)
        ]
      ]
      | inr k ↦ elim (cases_eq i b) [
        | inl x ↦ elim (cases_eq j a) [
          | inl y ↦ omega arith
          | inr n ↦ elim (cases_eq j b) [
            | inl y ↦ omega arith
            | inr m ↦ (let u = ib x in let v = je n m in omega arith)
          ]
        ]
        | inr l ↦ elim (cases_eq j a) [
          | inl y ↦ (let u = ie k l in omega arith)
          | inr n ↦ elim (cases_eq j b) [
            | inl y ↦ (let u = ie k l in omega arith)
            | inr m ↦ (let u = ie k l in let v = je n m in omega arith)
          ]
        ]
      ]
    ]

swap_apart : (d : Range) (ranges : List Range) (a b : ℕ) → a < length ranges → b < length ranges → AllApart d ranges → AllApart d (swap ranges a b)
swap_apart d ranges a b la lb known = λ i j inside behind other.
    let size : length (swap ranges a b) ≡ length ranges = length-swap ranges a b in
    let (s, p) = stood d ranges a b i la lb (omega arith) in
    let (t, q) = stood d ranges a b j la lb (omega arith) in
    rw (p.same, q.same) (known s t p.inside q.inside (λ e. other (one_place a b i j s t p.at_a p.at_b p.else q.at_a q.at_b q.else e)))

-- ranges that are apart in one order are so in another
pub apart_in_any_order : (xs ys : List Range) → IsPermutation xs ys → AreApart ys → AreApart xs
apart_in_any_order xs ys moved apart = λ i j d less few.
    IsPermutation-keeps ys (AllApart d) (all_apart d ys apart) (λ l a b la lb known. swap_apart d l a b la lb known) xs (IsPermutation-sym xs ys moved)
    i j (omega arith) few (λ e. omega arith)

all_front : (p : Range → Bool) (d : Range) (xs : List Range) (n : ℕ) → n ≤ length xs → ((i : ℕ) → i < n → p (get_or xs i d) ≡ true) → list_all p (take n xs) ≡ true
all_front p d xs zero few h = refl
all_front p d [] (suc n) few h = refl
all_front p d (x ∷ xs) (suc n) few h = and_from _ _ (h 0 (omega arith)) (all_front p d xs n (omega arith) (λ i lt. h (suc i) (omega arith)))

pub apart_at : (ranges : List Range) → AreApart ranges → (i : ℕ) → i < length ranges → IsApartAt ranges i true
apart_at ranges apart i inside = λ d. all_front (are_apart (get_or ranges i d)) d ranges i (omega arith) (λ k less. apart k i d less inside)
