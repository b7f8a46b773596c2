-- SPDX-License-Identifier: MIT OR Apache-2.0
-- A record that breaks no condition is fit.
use Rattle.std.proofs.Common.{◌≡◌, ◌≢◌, ℕ, zero, suc, ◌%◌, ◌^◌, ◌<◌, ◌≤◌, Bool, true, false, not, cond, List, [], ◌∷◌, length, get_or, Option, Some, None, inl, inr, refl, sym, arith, ◌==◌, nat_le}
use Rattle.std.specs.List.{list_all}
use Rattle.std.proofs.lemmas.Bool.{and_parts, or_cases, eqb-true, eq-eqb, leb-true, ltb-true}
use Rattle.std.proofs.lemmas.List.Folds.{list_any_at}
use Rattle.ffa_model.specs.declared.limits.TheConstants.{MOST_RANGES}
use Rattle.ffa_model.specs.declared.rights.Kind.{Kind}
use Rattle.ffa_model.specs.declared.transaction.Range.{Range}
use Rattle.ffa_model.specs.declared.transaction.Receiver.{Receiver}
use Rattle.ffa_model.specs.DescriptorPlaces.{data_code}
use Rattle.ffa_model.specs.SendDescriptor.{SendRecord, AreApart, is_grant, is_named, are_apart, range_end}
use Rattle.ffa_memdesc.proofs.SendLaw.{grant_told}
use Rattle.play_trace.specs.Conditions.{are_distinct, are_all_apart, conditions, first_broken}
use Rattle.play_trace.proofs.Sends.{Fit}

next : {A : Type 0} (t : Bool) (u : A) (x : Option A) → cond t x (Some u) ≡ None → (t ≡ true) × (x ≡ None)
next true u x none = (refl, none)
next false u x none = absurd cc

all_at : {X : Type 0} (p : X → Bool) (xs : List X) (i : ℕ) (d : X) → list_all p xs ≡ true → i < length xs → p (get_or xs i d) ≡ true
all_at p [] i d all lt = absurd (omega arith)
all_at p (x ∷ xs) zero d all lt = (and_parts (p x) (list_all p xs) all).0
all_at p (x ∷ xs) (suc i) d all lt = all_at p xs i d (and_parts (p x) (list_all p xs) all).1 (omega arith)

not_both : (t : Bool) → t ≡ true → not t ≡ true → ⊥
not_both true holds fails = absurd cc
not_both false holds fails = absurd cc

unnamed_at : (e : ℕ) (xs : List Receiver) (i : ℕ) (d : Receiver) → not (is_named e xs) ≡ true → i < length xs → (get_or xs i d).endpoint.0 ≢ e
unnamed_at e xs i d not_named lt same =
    not_both (is_named e xs) (list_any_at (λ (x : Receiver). x.endpoint.0 == e) xs i d lt (eq-eqb _ _ same)) not_named

distinct_at : (xs : List Receiver) (i j : ℕ) (d : Receiver) → are_distinct xs ≡ true → j < i → i < length xs → (get_or xs j d).endpoint.0 ≢ (get_or xs i d).endpoint.0
distinct_at [] i j d all before lt = absurd (omega arith)
distinct_at (x ∷ xs) zero j d all before lt = absurd (omega arith)
distinct_at (x ∷ xs) (suc i) zero d all before lt = λ same. unnamed_at x.endpoint.0 xs i d (and_parts (not (is_named x.endpoint.0 xs)) (are_distinct xs) all).0 (omega arith) (sym same)
distinct_at (x ∷ xs) (suc i) (suc j) d all before lt = distinct_at xs i j d (and_parts (not (is_named x.endpoint.0 xs)) (are_distinct xs) all).1 (omega arith) (omega arith)

apart_told : (x q : Range) → are_apart x q ≡ true → AreApart q x
apart_told x q apart = elim (or_cases (nat_le (range_end x) q.address) (nat_le (range_end q) x.address) apart) [ inl a ↦ inr (leb-true _ _ a) | inr a ↦ inl (leb-true _ _ a) ]

apart_at : (qs : List Range) (i j : ℕ) (d : Range) → are_all_apart qs ≡ true → j < i → i < length qs → AreApart (get_or qs i d) (get_or qs j d)
apart_at [] i j d all before lt = absurd (omega arith)
apart_at (q ∷ qs) zero j d all before lt = absurd (omega arith)
apart_at (q ∷ qs) (suc i) zero d all before lt = apart_told q (get_or qs i d) (all_at (are_apart q) qs i d (and_parts (list_all (are_apart q) qs) (are_all_apart qs) all).0 (omega arith))
apart_at (q ∷ qs) (suc i) (suc j) d all before lt = apart_at qs i j d (and_parts (list_all (are_apart q) qs) (are_all_apart qs) all).1 (omega arith) (omega arith)

pub fitness : (kind : Kind) (r : SendRecord) → first_broken (conditions kind r) ≡ None → length r.ranges ≤ MOST_RANGES → Fit kind r
fitness kind r none few =
    let (flag, n0) = next _ _ _ none in
    let (least, n1) = next _ _ _ n0 in
    let (most, n2) = next _ _ _ n1 in
    let (grants, n3) = next _ _ _ n2 in
    let (other, n4) = next _ _ _ n3 in
    let (distinct, n5) = next _ _ _ n4 in
    let (some, n6) = next _ _ _ n5 in
    let (pages, n7) = next _ _ _ n6 in
    let (aligned, n8) = next _ _ _ n7 in
    let (below, n9) = next _ _ _ n8 in
    let (apart, n10) = next _ _ _ n9 in
    let (total, n11) = next _ _ _ n10 in
    record {
      least = leb-true _ _ least;
      most = leb-true _ _ most;
      flag = leb-true _ _ flag;
      grants = λ i d lt. grant_told kind _ (all_at (λ (x : Receiver). is_grant kind (data_code x.grant)) r.receivers i d grants lt);
      other = λ i d lt. unnamed_at r.sender r.receivers i d other lt;
      distinct = λ i j d before lt. distinct_at r.receivers i j d distinct before lt;
      some_ranges = leb-true _ _ some;
      few_ranges = few;
      pages = λ i d lt. leb-true _ _ (all_at (λ (q : Range). nat_le 1 q.pages) r.ranges i d pages lt);
      aligned = λ i d lt. eqb-true _ _ (all_at (λ (q : Range). q.address % 4096 == 0) r.ranges i d aligned lt);
      below = λ i d lt. leb-true _ _ (all_at (λ (q : Range). nat_le (range_end q) (2 ^ 48)) r.ranges i d below lt);
      apart = λ i j d before lt. apart_at r.ranges i j d apart before lt;
      total = ltb-true _ _ total;
    }
