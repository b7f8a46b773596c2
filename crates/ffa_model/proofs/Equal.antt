-- SPDX-License-Identifier: MIT OR Apache-2.0
-- Whether two values are equal. What each of these answers, its type says.
use Rattle.std.proofs.Common.{◌≡◌, ◌≢◌, ◌∙◌, ℕ, Bool, true, false, List, [], ◌∷◌, Option, Some, None, refl, sym, ap, inl, inr, ◌⊎◌}
use Rattle.std.proofs.lemmas.Bool.{cases_eq, false≢true, true≢false}
use Rattle.std.proofs.lemmas.Option.{none-some, same_Some}
use Rattle.ffa_model.specs.declared.schedule.Status.{Status}
use Rattle.ffa_model.specs.declared.schedule.Work.{Work}
use Rattle.std.specs.List.{list_any}
use Rattle.std.specs.Ordering.{eq_by_cmp, nat_cmp}
use Rattle.std.specs.Cmp.Lexicographic.{slice_cmp}
use Rattle.std.specs.FinSet as finite_set
use Rattle.ffa_model.proofs.Sets.{Bits, same_bits}
use Rattle.ffa_model.specs.Codes.{by_of, status_from, status_number, status_from-number, work_from, work_from-by_of}

-- of a type whose values are told apart as those of another are
pub equal_by : {A B : Type 0} (to : A → B) (from : B → A) → ((a : A) → from (to a) ≡ a) → ((x y : B) → (x ≡ y) ⊎ (x ≢ y)) → (a b : A) → (a ≡ b) ⊎ (a ≢ b)
equal_by to from back equal a b = elim (equal (to a) (to b)) [
  | inl same ↦ inl (sym (back a) ∙ ap from same ∙ back b)
  | inr differ ↦ inr (λ same. differ (ap to same))
]

pub equal_number : (a b : ℕ) → (a ≡ b) ⊎ (a ≢ b)
equal_number = cases_eq

pub equal_truth : (a b : Bool) → (a ≡ b) ⊎ (a ≢ b)
equal_truth true true = inl refl
equal_truth true false = inr true≢false
equal_truth false true = inr false≢true
equal_truth false false = inl refl

pub equal_pair : {X Y : Type 0} → ((x y : X) → (x ≡ y) ⊎ (x ≢ y)) → ((x y : Y) → (x ≡ y) ⊎ (x ≢ y)) → (a b : X × Y) → (a ≡ b) ⊎ (a ≢ b)
equal_pair {X} {Y} one other a b = of (one a.0 b.0) (other a.1 b.1)
  where
    of : (a.0 ≡ b.0) ⊎ (a.0 ≢ b.0) → (a.1 ≡ b.1) ⊎ (a.1 ≢ b.1) → (a ≡ b) ⊎ (a ≢ b)
    of (inl same) (inl alike) = inl (λ i. (same i, alike i))
    of (inl same) (inr differ) = inr (λ is. differ (ap (λ (p : X × Y). p.1) is))
    of (inr differ) either = inr (λ is. differ (ap (λ (p : X × Y). p.0) is))

pub equal_option : {X : Type 0} → ((x y : X) → (x ≡ y) ⊎ (x ≢ y)) → (a b : Option X) → (a ≡ b) ⊎ (a ≢ b)
equal_option each None None = inl refl
equal_option each None (Some y) = inr (λ is. none-some y is)
equal_option each (Some x) None = inr (λ is. none-some x (sym is))
equal_option each (Some x) (Some y) = elim (each x y) [ inl same ↦ inl (ap Some same) | inr differ ↦ inr (λ is. differ (same_Some x y is)) ]

pub equal_list : {X : Type 0} → ((x y : X) → (x ≡ y) ⊎ (x ≢ y)) → (a b : List X) → (a ≡ b) ⊎ (a ≢ b)
equal_list each [] [] = inl refl
equal_list {X} each [] (y ∷ ys) = inr (λ is. true≢false (ap (λ (zs : List X). elim zs as (λ _. Bool) [ [] ↦ true | z ∷ zs ↦ false ]) is))
equal_list {X} each (x ∷ xs) [] = inr (λ is. true≢false (ap (λ (zs : List X). elim zs as (λ _. Bool) [ [] ↦ true | z ∷ zs ↦ false ]) (sym is)))
equal_list {X} each (x ∷ xs) (y ∷ ys) = of (each x y) (equal_list each xs ys)
  where
    first : List X → X
    first [] = x
    first (z ∷ zs) = z

    rest : List X → List X
    rest [] = []
    rest (z ∷ zs) = zs

    of : (x ≡ y) ⊎ (x ≢ y) → (xs ≡ ys) ⊎ (xs ≢ ys) → ((x ∷ xs) ≡ (y ∷ ys)) ⊎ ((x ∷ xs) ≢ (y ∷ ys))
    of (inl same) (inl alike) = inl (λ i. same i ∷ alike i)
    of (inl same) (inr differ) = inr (λ is. differ (ap rest is))
    of (inr differ) either = inr (λ is. differ (ap first is))

pub equal_status : (a b : Status) → (a ≡ b) ⊎ (a ≢ b)
equal_status = equal_by status_number status_from status_from-number equal_number

pub equal_work : (a b : Work) → (a ≡ b) ⊎ (a ≢ b)
equal_work = equal_by by_of work_from work_from-by_of (equal_option equal_number)

pub equal_bits : (a b : Bits) → (a ≡ b) ⊎ (a ≢ b)
equal_bits a b = elim (equal_list (equal_list equal_number) (finite_set.items a) (finite_set.items b)) [
  | inl same ↦ inl (same_bits a b (λ x. finite_set.contains-items a x ∙ ap (list_any (eq_by_cmp (slice_cmp nat_cmp) x)) same ∙ sym (finite_set.contains-items b x)))
  | inr differ ↦ inr (λ is. differ (ap finite_set.items is))
]
