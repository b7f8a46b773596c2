-- SPDX-License-Identifier: MIT OR Apache-2.0
-- Lists of entries that are read one after another, each tested beside the ones before it.
use Rattle.std.proofs.Common.{◌≡◌, ℕ, zero, suc, ◌+◌, ◌*◌, ◌%◌, ◌^◌, ◌<◌, ◌≤◌, Bool, true, false, ◌&&◌, not, cond, eqb, List, [], ◌∷◌, ◌++◌, take, get_or, Some, None, refl, sym, ap, ap₂, ◌∙◌, subst, add-one, arith, nat_le, inl, inr}
use Rattle.std.specs.List.{list_all}
use Rattle.std.proofs.lemmas.Bool.{and_parts, and_from, cases_lt}
use Rattle.std.proofs.lemmas.Option.{cond_some}
use Rattle.ffa_model.specs.declared.flaw.Flaw.{Flaw}
use Rattle.ffa_model.specs.declared.flaw.Flaw.TheVariants.{Range as FlawOfRange}
use Rattle.ffa_model.specs.declared.flaw.RangeFlaw.TheVariants.{Empty, Unaligned, TooHigh, Reserved, Overlap}
use Rattle.ffa_model.specs.declared.rights.Kind.{Kind}
use Rattle.ffa_model.specs.declared.transaction.Receiver.{Receiver}
use Rattle.ffa_model.specs.declared.transaction.Range.{Range}
use Rattle.ffa_model.specs.Lists.{listed}
use Rattle.ffa_model.specs.FirstFlaws.{first_broken, first_of}
use Rattle.ffa_model.proofs.Listed.{get_or-listed}
use Rattle.ffa_model.specs.DescriptorPlaces.{Versioned, u32_at, endpoint_field, permissions_field, access_flags_field, composite_field, accesses_size, is_access_rest_zero}
use Rattle.ffa_model.specs.SendDescriptor.{holds_at_each, is_grant, is_named, is_range, are_apart, range_end}
use Rattle.ffa_memdesc.specs.Reading.{IsApartAt, is_range_after, is_receiver_after, own_flaw_at, own_flaw_after, range_after, range_of, ranges_of, receiver_after, receiver_of, receivers_of, access_flaw_at, access_flaw_after, range_flaw_at, range_flaw_after}
use Rattle.ffa_memdesc.proofs.Firsts.{first_here, first_none}
use Rattle.ffa_memdesc.proofs.Listed.{listed-suc, holds_again, holds_more, holds_told}

-- the first n entries pass, and are these
pub record Passed {X : Type 0} (read : ℕ → X) (test : ℕ → Bool) (n : ℕ) (xs : List X) : Type 0 where
  pub tested : holds_at_each test n ≡ true
  pub items : xs ≡ listed n read

one_more : {X : Type 0} (read : ℕ → X) (test : ℕ → Bool) (n : ℕ) (xs ys : List X) (x : X) (t : Bool) → Passed read test n xs → t ≡ test n → Some x ≡ cond t (Some (read n)) None → ys ≡ xs ++ x ∷ []
    → Passed read test (n + 1) ys
one_more read test n xs ys x t before same e grown =
    let (passes, is) = cond_some t (read n) x (sym e) in
    record {
      tested = holds_more test n before.tested (sym same ∙ passes);
      items = rw (add-one, listed-suc read n) (grown ∙ ap (λ l. l ++ x ∷ []) before.items ∙ ap (λ y. listed n read ++ y ∷ []) (sym is));
    }

-- the receivers of an array, which stands at a place, in a send by this sender
module _ (kind : Kind) (sender composite : ℕ) (b : Versioned) (array : ℕ) where
  pub receivers_more : (n at : ℕ) (xs ys earlier : List Receiver) (x : Receiver)
      → Passed (receiver_after b array) (is_receiver_after kind sender composite b array) n xs → earlier ≡ xs → at ≡ array + accesses_size b.version n
      → Some x ≡ receiver_of kind sender composite b at earlier → ys ≡ xs ++ x ∷ []
      → Passed (receiver_after b array) (is_receiver_after kind sender composite b array) (n + 1) ys
  unfolding receiver_of
  receivers_more n at xs ys earlier x before same place e grown =
      one_more (receiver_after b array) (is_receiver_after kind sender composite b array) n xs ys x _ before
      (rw (same, before.items) refl) (subst (λ (p : ℕ). Some x ≡ receiver_of kind sender composite b p earlier) place e) grown

  pub receivers_end : (n count : ℕ) (xs : List Receiver) → n ≡ count → Passed (receiver_after b array) (is_receiver_after kind sender composite b array) n xs
      → Some xs ≡ receivers_of kind sender composite b array count
  unfolding receivers_of
  receivers_end n count xs e before = rw (← e, before.tested, before.items) refl

  receiver_passes : (i : ℕ) → is_receiver_after kind sender composite b array i ≡ true → None ≡ access_flaw_after kind sender composite b array i
  unfolding access_flaw_at
  receiver_passes i e =
      let p5 = and_parts _ _ e in
      let p4 = and_parts _ _ p5.0 in
      let p3 = and_parts _ _ p4.0 in
      let p2 = and_parts _ _ p3.0 in
      let p1 = and_parts _ _ p2.0 in
      let grant : is_grant kind (permissions_field b.bytes (array + accesses_size b.version i)) ≡ true = p1.0 in
      let flags : eqb (access_flags_field b.bytes (array + accesses_size b.version i)) 0 ≡ true = p1.1 in
      let same : eqb (composite_field b.bytes (array + accesses_size b.version i)) composite ≡ true = p2.1 in
      let reserved : is_access_rest_zero b.version b.bytes (array + accesses_size b.version i) ≡ true = p3.1 in
      let other : not (eqb (endpoint_field b.bytes (array + accesses_size b.version i)) sender) ≡ true = p4.1 in
      let new : not (is_named (endpoint_field b.bytes (array + accesses_size b.version i)) (listed i (receiver_after b array))) ≡ true = p5.1 in
      rw (grant, flags, same, reserved, other, new) refl

  pub receivers_flaw : (n count at : ℕ) (xs earlier : List Receiver) (flaw : Flaw) → n < count
      → Passed (receiver_after b array) (is_receiver_after kind sender composite b array) n xs → earlier ≡ xs → at ≡ array + accesses_size b.version n
      → Some flaw ≡ access_flaw_at kind sender composite b at earlier n → Some flaw ≡ first_of count (access_flaw_after kind sender composite b array)
  receivers_flaw n count at xs earlier flaw lt before same place e =
      first_here count (access_flaw_after kind sender composite b array) n flaw lt
      (λ j less. receiver_passes j (holds_told (is_receiver_after kind sender composite b array) n before.tested j less))
      (e ∙ ap₂ (λ (p : ℕ) (l : List Receiver). access_flaw_at kind sender composite b p l n) place (same ∙ before.items))

  pub receivers_none : (n count : ℕ) (xs : List Receiver) → n ≡ count → Passed (receiver_after b array) (is_receiver_after kind sender composite b array) n xs
      → None ≡ first_of count (access_flaw_after kind sender composite b array)
  receivers_none n count xs e before =
      first_none count (access_flaw_after kind sender composite b array)
      (λ j less. receiver_passes j (holds_told (is_receiver_after kind sender composite b array) n before.tested j (omega arith)))

-- conditions that all hold, and the first that is broken of more of them
all_hold : (t u v w : Bool) (a b c d : Flaw) → None ≡ first_broken ((t, a) ∷ (u, b) ∷ (v, c) ∷ (w, d) ∷ []) → (t && u && v && w) ≡ true
all_hold true true true true a b c d e = refl
all_hold false u v w a b c d e = absurd cc
all_hold true false v w a b c d e = absurd cc
all_hold true true false w a b c d e = absurd cc
all_hold true true true false a b c d e = absurd cc

still_broken : (t u v w : Bool) (a b c d flaw : Flaw) (more : List (Bool × Flaw)) → Some flaw ≡ first_broken ((t, a) ∷ (u, b) ∷ (v, c) ∷ (w, d) ∷ [])
    → Some flaw ≡ first_broken ((t, a) ∷ (u, b) ∷ (v, c) ∷ (w, d) ∷ more)
still_broken true true true true a b c d flaw more e = absurd cc
still_broken false u v w a b c d flaw more e = e
still_broken true false v w a b c d flaw more e = e
still_broken true true false w a b c d flaw more e = e
still_broken true true true false a b c d flaw more e = e

take-listed : {X : Type 0} (i n : ℕ) (f : ℕ → X) → i ≤ n → take i (listed n f) ≡ listed i f
take-listed zero n f le = refl
take-listed (suc i) zero f le = absurd (omega arith)
take-listed (suc i) (suc n) f le = ap (λ l. f 0 ∷ l) (take-listed i n (λ k. f (suc k)) (omega arith))

-- the ranges of a composite, which stands at a place: n are read, and each is one by itself
module _ (b : List ℕ) (composite : ℕ) where
  pub range_more : (n : ℕ) (xs ys : List Range) (x : Range) → xs ≡ listed n (range_after b composite)
      → ((i : ℕ) → i < n → None ≡ own_flaw_after b composite i) → Some x ≡ range_of b (composite + 16 + 16 * n) → None ≡ own_flaw_after b composite n → ys ≡ xs ++ x ∷ []
      → (ys ≡ listed (n + 1) (range_after b composite)) × ((i : ℕ) → i < n + 1 → None ≡ own_flaw_after b composite i)
  unfolding range_of
  range_more n xs ys x items whole e here grown =
      let (passes, is) = cond_some (is_range b (composite + 16 + 16 * n)) (range_after b composite n) x (sym e) in (
        rw (add-one, listed-suc (range_after b composite) n) (grown ∙ ap (λ l. l ++ x ∷ []) items ∙ ap (λ y. listed n (range_after b composite) ++ y ∷ []) (sym is)),
        λ i lt. elim (cases_lt i n) [
          | inl less ↦ whole i less
          | inr le ↦ (let same : n ≡ i = omega arith in subst (λ (k : ℕ). None ≡ own_flaw_after b composite k) same here)
        ],
      )

  range_fits : (i : ℕ) → None ≡ own_flaw_after b composite i → is_range b (composite + 16 + 16 * i) ≡ true
  unfolding own_flaw_at
  range_fits i e =
      all_hold (nat_le 1 (range_after b composite i).pages) (eqb ((range_after b composite i).address % 4096) 0) (nat_le (range_end (range_after b composite i)) (2 ^ 48))
      (eqb (u32_at b (composite + 16 + 16 * i + 12)) 0) (FlawOfRange i Empty) (FlawOfRange i Unaligned) (FlawOfRange i TooHigh) (FlawOfRange i Reserved) e

  apart_is : (n : ℕ) (xs : List Range) (i : ℕ) (t : Bool) → xs ≡ listed n (range_after b composite) → i < n → IsApartAt xs i t
      → list_all (are_apart (range_after b composite i)) (listed i (range_after b composite)) ≡ t
  apart_is n xs i t items lt apart =
      let at : IsApartAt (listed n (range_after b composite)) i t = subst (λ (l : List Range). IsApartAt l i t) items apart in
      let known = at (range_after b composite 0) in
      let index : get_or (listed n (range_after b composite)) i (range_after b composite 0) ≡ range_after b composite i = get_or-listed n (range_after b composite) i (range_after b composite 0) lt in
      let front : take i (listed n (range_after b composite)) ≡ listed i (range_after b composite) = take-listed i n (range_after b composite) (omega arith) in
      rw (← index, ← front) known

  range_stands : (n : ℕ) (xs : List Range) (i : ℕ) → xs ≡ listed n (range_after b composite) → i < n → None ≡ own_flaw_after b composite i → IsApartAt xs i true
      → is_range_after b composite i ≡ true
  range_stands n xs i items lt fits apart = and_from _ _ (range_fits i fits) (apart_is n xs i true items lt apart)

  pub whole_ranges : (n count : ℕ) (xs : List Range) → n ≡ count → xs ≡ listed n (range_after b composite)
      → ((i : ℕ) → i < n → None ≡ own_flaw_after b composite i) → ((i : ℕ) → i < n → IsApartAt xs i true)
      → Some xs ≡ ranges_of b composite count
  unfolding ranges_of
  whole_ranges n count xs e items whole apart =
      let stand : holds_at_each (is_range_after b composite) n ≡ true = holds_again (is_range_after b composite) n (λ i lt. range_stands n xs i items lt (whole i lt) (apart i lt)) in
      rw (← e, stand, items) refl

  range_passes : (i : ℕ) → is_range_after b composite i ≡ true → None ≡ range_flaw_after b composite i
  unfolding range_flaw_at
  range_passes i e =
      let p4 = and_parts _ _ e in
      let p3 = and_parts _ _ p4.0 in
      let p2 = and_parts _ _ p3.0 in
      let p1 = and_parts _ _ p2.0 in
      let least : nat_le 1 (range_after b composite i).pages ≡ true = p1.0 in
      let aligned : eqb ((range_after b composite i).address % 4096) 0 ≡ true = p1.1 in
      let below : nat_le (range_end (range_after b composite i)) (2 ^ 48) ≡ true = p2.1 in
      let reserved : eqb (u32_at b (composite + 16 + 16 * i + 12)) 0 ≡ true = p3.1 in
      let apart : list_all (are_apart (range_after b composite i)) (listed i (range_after b composite)) ≡ true = p4.1 in
      rw (least, aligned, below, reserved, apart) refl

  range_overlaps : (i : ℕ) → is_range b (composite + 16 + 16 * i) ≡ true → list_all (are_apart (range_after b composite i)) (listed i (range_after b composite)) ≡ false
      → Some (FlawOfRange i Overlap) ≡ range_flaw_after b composite i
  unfolding range_flaw_at
  range_overlaps i e overlaps =
      let p3 = and_parts _ _ e in
      let p2 = and_parts _ _ p3.0 in
      let p1 = and_parts _ _ p2.0 in
      let least : nat_le 1 (range_after b composite i).pages ≡ true = p1.0 in
      let aligned : eqb ((range_after b composite i).address % 4096) 0 ≡ true = p1.1 in
      let below : nat_le (range_end (range_after b composite i)) (2 ^ 48) ≡ true = p2.1 in
      let reserved : eqb (u32_at b (composite + 16 + 16 * i + 12)) 0 ≡ true = p3.1 in
      rw (least, aligned, below, reserved, overlaps) refl

  range_broken : (i : ℕ) (flaw : Flaw) → Some flaw ≡ own_flaw_after b composite i → Some flaw ≡ range_flaw_after b composite i
  unfolding range_flaw_at own_flaw_at
  range_broken i flaw e =
      still_broken (nat_le 1 (range_after b composite i).pages) (eqb ((range_after b composite i).address % 4096) 0) (nat_le (range_end (range_after b composite i)) (2 ^ 48))
      (eqb (u32_at b (composite + 16 + 16 * i + 12)) 0) (FlawOfRange i Empty) (FlawOfRange i Unaligned) (FlawOfRange i TooHigh) (FlawOfRange i Reserved)
      flaw ((list_all (are_apart (range_after b composite i)) (listed i (range_after b composite)), FlawOfRange i Overlap) ∷ []) e

  pub first_overlaps : (n count : ℕ) (xs : List Range) (place : ℕ) → n ≤ count → xs ≡ listed n (range_after b composite)
      → ((i : ℕ) → i < n → None ≡ own_flaw_after b composite i) → place < n → ((i : ℕ) → i < place → IsApartAt xs i true) → IsApartAt xs place false
      → Some (FlawOfRange place Overlap) ≡ first_of count (range_flaw_after b composite)
  first_overlaps n count xs place few items whole inside apart overlaps =
      first_here count (range_flaw_after b composite) place (FlawOfRange place Overlap) (omega arith)
      (λ j less. range_passes j (range_stands n xs j items (omega arith) (whole j (omega arith)) (apart j less)))
      (range_overlaps place (range_fits place (whole place inside)) (apart_is n xs place false items inside overlaps))

  pub first_breaks : (n count : ℕ) (xs : List Range) (flaw : Flaw) → n < count → xs ≡ listed n (range_after b composite)
      → ((i : ℕ) → i < n → None ≡ own_flaw_after b composite i) → ((i : ℕ) → i < n → IsApartAt xs i true) → Some flaw ≡ own_flaw_after b composite n
      → Some flaw ≡ first_of count (range_flaw_after b composite)
  first_breaks n count xs flaw few items whole apart e =
      first_here count (range_flaw_after b composite) n flaw few
      (λ j less. range_passes j (range_stands n xs j items less (whole j less) (apart j less)))
      (range_broken n flaw e)

  pub none_breaks : (n count : ℕ) (xs : List Range) → n ≡ count → xs ≡ listed n (range_after b composite)
      → ((i : ℕ) → i < n → None ≡ own_flaw_after b composite i) → ((i : ℕ) → i < n → IsApartAt xs i true)
      → None ≡ first_of count (range_flaw_after b composite)
  none_breaks n count xs e items whole apart =
      first_none count (range_flaw_after b composite)
      (λ j less. range_passes j (range_stands n xs j items (omega arith) (whole j (omega arith)) (apart j (omega arith))))
