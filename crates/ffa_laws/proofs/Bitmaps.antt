-- SPDX-License-Identifier: MIT OR Apache-2.0
-- Sets of bits and bindings, and what views see of them.
use Rattle.std.proofs.Common.{◌≡◌, ◌∙◌, ℕ, Bool, true, false, List, [], ◌∷◌, map, refl, sym, ap, subst, arith, ◌||◌, ◌&&◌, not}
use Rattle.std.specs.Ordering.{eq_by_cmp, nat_cmp}
use Rattle.std.specs.Cmp.Lexicographic.{nat_list_cmp_total, slice_cmp}
use Rattle.std.specs.FinSet as finite_set
use Rattle.std.proofs.lemmas.Bool.{cases_Bool, false≢true}
use Rattle.ffa_model.specs.State.{State}
use Rattle.ffa_model.specs.Notifications.{binding}
use Rattle.ffa_model.proofs.Sets.{Bits, among, contains-less, contains-more, contains-retained, same_bits, same_elements}
use Rattle.ffa_laws.specs.Events.{Bound, Unbound, apply_all}

-- what holds of each entry of a list holds of an entry that is in it
pub among-each : (P : List ℕ → Type 0) (f : ℕ → List ℕ) (ks : List ℕ) (x : List ℕ) → ((k : ℕ) → P (f k)) → among x (map f ks) ≡ true → P x
among-each P f [] x each is = absurd (false≢true is)
among-each P f (k ∷ ks) x each is =
    elim (eq_by_cmp (slice_cmp nat_cmp) x (f k)) as (λ b. eq_by_cmp (slice_cmp nat_cmp) x (f k) ≡ b → (b || among x (map f ks)) ≡ true → P x) [
      | true ↦ λ here _. subst P (sym (same_elements x (f k) here)) (each k)
      | false ↦ λ _ rest. among-each P f ks x each rest
    ] refl is

-- what is seen of a set, where the entries that come or go are all seen, or none is
module _ (seen : List ℕ → Bool) (a : Bits) (xs : List (List ℕ)) where
  abbrev pub Are : Bool → Type 0
  Are b = (x : List ℕ) → among x xs ≡ true → seen x ≡ b

  pub seen-more : Are true → finite_set.retain (finite_set.union a (finite_set.from_list xs)) seen ≡ finite_set.union (finite_set.retain a seen) (finite_set.from_list xs)
  seen-more all = same_bits _ _ (λ x.
      contains-retained (finite_set.union a (finite_set.from_list xs)) seen x
      ∙ ap (λ b. b && seen x) (contains-more a xs x)
      ∙ go x (among x xs) refl
      ∙ sym (contains-more (finite_set.retain a seen) xs x ∙ ap (λ b. b || among x xs) (contains-retained a seen x)))
    where
      go : (x : List ℕ) (b : Bool) → among x xs ≡ b → ((finite_set.contains a x || among x xs) && seen x) ≡ ((finite_set.contains a x && seen x) || among x xs)
      go x true is = let here = all x is in grind (arith, cases_Bool (finite_set.contains a x))
      go x false is = grind (arith, cases_Bool (finite_set.contains a x), cases_Bool (seen x))

  pub unseen-more : Are false → finite_set.retain (finite_set.union a (finite_set.from_list xs)) seen ≡ finite_set.retain a seen
  unseen-more none = same_bits _ _ (λ x.
      contains-retained (finite_set.union a (finite_set.from_list xs)) seen x
      ∙ ap (λ b. b && seen x) (contains-more a xs x)
      ∙ go x (among x xs) refl
      ∙ sym (contains-retained a seen x))
    where
      go : (x : List ℕ) (b : Bool) → among x xs ≡ b → ((finite_set.contains a x || among x xs) && seen x) ≡ (finite_set.contains a x && seen x)
      go x true is = let here = none x is in grind (arith, cases_Bool (finite_set.contains a x))
      go x false is = grind (arith, cases_Bool (finite_set.contains a x), cases_Bool (seen x))

  pub seen-less : finite_set.retain (finite_set.difference a (finite_set.from_list xs)) seen ≡ finite_set.difference (finite_set.retain a seen) (finite_set.from_list xs)
  seen-less = same_bits _ _ (λ x.
      contains-retained (finite_set.difference a (finite_set.from_list xs)) seen x
      ∙ ap (λ b. b && seen x) (contains-less a xs x)
      ∙ grind (arith, cases_Bool (finite_set.contains a x), cases_Bool (seen x), cases_Bool (among x xs))
      ∙ sym (contains-less (finite_set.retain a seen) xs x ∙ ap (λ b. b && not (among x xs)) (contains-retained a seen x)))

  pub unseen-less : Are false → finite_set.retain (finite_set.difference a (finite_set.from_list xs)) seen ≡ finite_set.retain a seen
  unseen-less none = same_bits _ _ (λ x.
      contains-retained (finite_set.difference a (finite_set.from_list xs)) seen x
      ∙ ap (λ b. b && seen x) (contains-less a xs x)
      ∙ go x (among x xs) refl
      ∙ sym (contains-retained a seen x))
    where
      go : (x : List ℕ) (b : Bool) → among x xs ≡ b → ((finite_set.contains a x && not (among x xs)) && seen x) ≡ (finite_set.contains a x && seen x)
      go x true is = let here = none x is in grind (arith, cases_Bool (finite_set.contains a x))
      go x false is = grind (arith, cases_Bool (finite_set.contains a x), cases_Bool (seen x))

-- two tests, one after the other
pub retained-both : (a : Bits) (p q : List ℕ → Bool) (x : List ℕ) → finite_set.contains (finite_set.retain (finite_set.retain a p) q) x ≡ (finite_set.contains a x && (p x && q x))
retained-both a p q x =
    contains-retained (finite_set.retain a p) q x ∙ ap (λ b. b && q x) (contains-retained a p x)
    ∙ grind (arith, cases_Bool (finite_set.contains a x), cases_Bool (p x), cases_Bool (q x))

pub retained-commute : (a : Bits) (p q : List ℕ → Bool) → finite_set.retain (finite_set.retain a p) q ≡ finite_set.retain (finite_set.retain a q) p
retained-commute a p q = same_bits _ _ (λ x.
    retained-both a p q x ∙ grind (arith, cases_Bool (finite_set.contains a x), cases_Bool (p x), cases_Bool (q x)) ∙ sym (retained-both a q p x))

-- the first test leaves what the second does
pub retained-within : (a : Bits) (p q : List ℕ → Bool) → ((x : List ℕ) → q x ≡ true → p x ≡ true) → finite_set.retain (finite_set.retain a p) q ≡ finite_set.retain a q
retained-within a p q weaker = same_bits _ _ (λ x. retained-both a p q x ∙ go x (q x) refl ∙ sym (contains-retained a q x))
  where
    go : (x : List ℕ) (b : Bool) → q x ≡ b → (finite_set.contains a x && (p x && q x)) ≡ (finite_set.contains a x && q x)
    go x true is = let here = weaker x is in grind (arith, cases_Bool (finite_set.contains a x))
    go x false is = grind (arith, cases_Bool (finite_set.contains a x), cases_Bool (p x))

-- ---- bindings that events bring and take, one by one
module _ (e receiver class : ℕ) where
  abbrev entry : ℕ → List ℕ
  entry k = binding receiver class k e

  pub bound-all : (v : State) (ks : List ℕ) → apply_all e v (map (λ k. Bound receiver class k) ks) ≡ record v { bound = finite_set.union v.bound (finite_set.from_list (map entry ks)) }
  bound-all v [] = λ i. record v { bound = (same_bits v.bound _ (λ x. sym (contains-more v.bound [] x ∙ grind (arith, cases_Bool (finite_set.contains v.bound x))))) i }
  bound-all v (k ∷ ks) =
      bound-all (record v { bound = finite_set.insert v.bound (entry k) }) ks
      ∙ (λ i. record v { bound = same i })
    where
      same : finite_set.union (finite_set.insert v.bound (entry k)) (finite_set.from_list (map entry ks)) ≡ finite_set.union v.bound (finite_set.from_list (map entry (k ∷ ks)))
      same = same_bits _ _ (λ x.
          contains-more (finite_set.insert v.bound (entry k)) (map entry ks) x
          ∙ ap (λ b. b || among x (map entry ks)) (finite_set.contains-insert nat_list_cmp_total v.bound (entry k) x)
          ∙ grind (arith, cases_Bool (finite_set.contains v.bound x), cases_Bool (eq_by_cmp (slice_cmp nat_cmp) x (entry k)))
          ∙ sym (contains-more v.bound (map entry (k ∷ ks)) x))

  pub unbound-all : (v : State) (ks : List ℕ) → apply_all e v (map (λ k. Unbound receiver class k) ks) ≡ record v { bound = finite_set.difference v.bound (finite_set.from_list (map entry ks)) }
  unbound-all v [] = λ i. record v { bound = (same_bits v.bound _ (λ x. sym (contains-less v.bound [] x ∙ grind (arith, cases_Bool (finite_set.contains v.bound x))))) i }
  unbound-all v (k ∷ ks) =
      unbound-all (record v { bound = finite_set.remove v.bound (entry k) }) ks
      ∙ (λ i. record v { bound = same i })
    where
      same : finite_set.difference (finite_set.remove v.bound (entry k)) (finite_set.from_list (map entry ks)) ≡ finite_set.difference v.bound (finite_set.from_list (map entry (k ∷ ks)))
      same = same_bits _ _ (λ x.
          contains-less (finite_set.remove v.bound (entry k)) (map entry ks) x
          ∙ ap (λ b. b && not (among x (map entry ks))) (finite_set.contains-remove nat_list_cmp_total v.bound (entry k) x)
          ∙ grind (arith, cases_Bool (finite_set.contains v.bound x), cases_Bool (eq_by_cmp (slice_cmp nat_cmp) x (entry k)), cases_Bool (among x (map entry ks)))
          ∙ sym (contains-less v.bound (map entry (k ∷ ks)) x))
