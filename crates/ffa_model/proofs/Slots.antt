-- SPDX-License-Identifier: MIT OR Apache-2.0
-- Open transactions kept in slots: the map that the slots mean, and what a change of one slot changes in it.
use Rattle.std.proofs.Common.{◌≡◌, ◌∙◌, ℕ, zero, suc, ◌<◌, Bool, true, false, cond, List, [], ◌∷◌, length, get_or, set, Option, Some, None, refl, sym, ap, subst, arith, eq-eqb, eqb-true, ne_eqb}
use Rattle.std.specs.List.{filter_map}
use Rattle.std.specs.Ordering.{nat_cmp, eq_by_cmp}
use Rattle.std.specs.Cmp.{nat_cmp_total, unsigned_tied}
use Rattle.std.specs.FinMap as finite
use Rattle.std.proofs.lemmas.Option.{none-some, same_Some}
use Rattle.ffa_model.specs.State.{Transaction}
use Rattle.ffa_model.proofs.Handles.{Transactions}

-- a slot is free, or has an open transaction with its handle
abbrev pub Slot : Type 0
Slot = Option (ℕ × Transaction)

abbrev pub entries_in : List Slot → List (ℕ × Transaction)
entries_in slots = filter_map (λ slot. slot) slots

abbrev pub map_in : List Slot → Transactions
map_in slots = finite.from_entries (entries_in slots)

abbrev pub slot_at : List Slot → ℕ → Slot
slot_at slots i = get_or slots i None

-- no two slots have one handle
abbrev pub AreApart : List Slot → Type 0
AreApart slots = (i j : ℕ) (x y : ℕ × Transaction) → slot_at slots i ≡ Some x → slot_at slots j ≡ Some y → x.0 ≡ y.0 → i ≡ j

abbrev tied : ℕ → ℕ → Bool
tied q h = eq_by_cmp nat_cmp q h

abbrev found : ℕ → List Slot → Option Transaction
found q slots = finite.find nat_cmp q (entries_in slots)

itself : (h : ℕ) → tied h h ≡ true
itself h = unsigned_tied h h ∙ eq-eqb h h refl

other : (q h : ℕ) → (q ≡ h → ⊥) → tied q h ≡ false
other q h apart = unsigned_tied q h ∙ ne_eqb q h apart

same : (q h : ℕ) → tied q h ≡ true → q ≡ h
same q h is = eqb-true q h (sym (unsigned_tied q h) ∙ is)

-- two tests of which at most one holds may change places
swapped : {A : Type 0} (a b : Bool) (x y z : A) → (a ≡ true → b ≡ true → ⊥) → cond a x (cond b y z) ≡ cond b y (cond a x z)
swapped true true x y z apart = absurd (apart refl refl)
swapped true false x y z apart = refl
swapped false b x y z apart = refl

apart-tail : (slot : Slot) (slots : List Slot) → AreApart (slot ∷ slots) → AreApart slots
apart-tail slot slots apart i j x y at_i at_j is = let next : suc i ≡ suc j = apart (suc i) (suc j) x y at_i at_j is in omega arith

-- a handle that no slot has is not found
pub found-absent : (h : ℕ) (slots : List Slot) → ((i : ℕ) (x : ℕ × Transaction) → slot_at slots i ≡ Some x → h ≡ x.0 → ⊥) → found h slots ≡ None
found-absent h [] none = refl
found-absent h (None ∷ slots) none = found-absent h slots (λ i x at. none (suc i) x at)
found-absent h (Some x ∷ slots) none =
    ap (λ b. cond b (Some x.1) (found h slots)) (other h x.0 (none 0 x refl)) ∙ found-absent h slots (λ i y at. none (suc i) y at)

-- and one that is not found is in no slot
pub absent-found : (h : ℕ) (slots : List Slot) → found h slots ≡ None → (i : ℕ) (x : ℕ × Transaction) → slot_at slots i ≡ Some x → h ≡ x.0 → ⊥
absent-found h [] none i x at is = none-some x at
absent-found h (None ∷ slots) none zero x at is = none-some x at
absent-found h (None ∷ slots) none (suc i) x at is = absent-found h slots none i x at is
absent-found h (Some y ∷ slots) none zero x at is =
    let tie : tied h y.0 ≡ true = unsigned_tied h y.0 ∙ eq-eqb h y.0 (is ∙ sym (ap (λ (z : ℕ × Transaction). z.0) (same_Some y x at))) in
    none-some y.1 (sym none ∙ ap (λ b. cond b (Some y.1) (found h slots)) tie)
absent-found h (Some y ∷ slots) none (suc i) x at is = absent-found h slots (of (tied h y.0) none) i x at is
  where
    of : (b : Bool) → cond b (Some y.1) (found h slots) ≡ None → found h slots ≡ None
    of true some = absurd (none-some y.1 (sym some))
    of false none = none

-- what a slot has is found
pub found-at : (slots : List Slot) (i h : ℕ) (t : Transaction) → AreApart slots → slot_at slots i ≡ Some (h, t) → found h slots ≡ Some t
found-at [] i h t apart at = absurd (none-some (h, t) at)
found-at (None ∷ slots) zero h t apart at = absurd (none-some (h, t) at)
found-at (None ∷ slots) (suc i) h t apart at = found-at slots i h t (apart-tail None slots apart) at
found-at (Some x ∷ slots) zero h t apart at =
    let is : x ≡ (h, t) = same_Some x (h, t) at in
    ap (λ (y : ℕ × Transaction). cond (tied h y.0) (Some y.1) (found h slots)) is ∙ ap (λ b. cond b (Some t) (found h slots)) (itself h)
found-at (Some x ∷ slots) (suc i) h t apart at =
    ap (λ b. cond b (Some x.1) (found h slots)) (other h x.0 (λ is. absurd (never (apart 0 (suc i) x (h, t) refl at (sym is)))))
    ∙ found-at slots i h t (apart-tail (Some x) slots apart) at
  where
    never : 0 ≡ suc i → ⊥
    never is = omega arith

-- what is found is in a slot
pub slot-found : (slots : List Slot) (h : ℕ) (t : Transaction) → found h slots ≡ Some t → (i : ℕ) × (i < length slots) × (slot_at slots i ≡ Some (h, t))
slot-found [] h t is = absurd (none-some t is)
slot-found (None ∷ slots) h t is = let there = slot-found slots h t is in (suc there.0, omega (arith, there.1), there.2)
slot-found (Some x ∷ slots) h t is = of (tied h x.0) refl is (slot-found slots h t)
  where
    of : (b : Bool) → tied h x.0 ≡ b → cond b (Some x.1) (found h slots) ≡ Some t
        → (found h slots ≡ Some t → (i : ℕ) × (i < length slots) × (slot_at slots i ≡ Some (h, t)))
        → (i : ℕ) × (i < suc (length slots)) × (slot_at (Some x ∷ slots) i ≡ Some (h, t))
    of true tie here behind = (0, omega arith, λ i. Some (sym (same h x.0 tie) i, same_Some x.1 t here i))
    of false apart rest behind = let there = behind rest in (suc there.0, omega (arith, there.1), there.2)

-- a transaction is put into a free slot
found-put : (slots : List Slot) (i h : ℕ) (t : Transaction) (q : ℕ) → i < length slots → slot_at slots i ≡ None → found h slots ≡ None
    → found q (set slots i (Some (h, t))) ≡ cond (tied q h) (Some t) (found q slots)
found-put [] i h t q lt free new = absurd (omega arith)
found-put (None ∷ slots) zero h t q lt free new = refl
found-put (None ∷ slots) (suc i) h t q lt free new = found-put slots i h t q (omega arith) free new
found-put (Some x ∷ slots) zero h t q lt taken new = absurd (none-some x (sym taken))
found-put (Some x ∷ slots) (suc i) h t q lt free new =
    ap (cond (tied q x.0) (Some x.1)) (found-put slots i h t q (omega arith) free (rest (tied h x.0) new))
    ∙ swapped (tied q x.0) (tied q h) (Some x.1) (Some t) (found q slots)
    (λ at_x at_h. absent-found h (Some x ∷ slots) new 0 x refl (sym (same q h at_h) ∙ same q x.0 at_x))
  where
    rest : (b : Bool) → cond b (Some x.1) (found h slots) ≡ None → found h slots ≡ None
    rest true some = absurd (none-some x.1 (sym some))
    rest false none = none

-- a slot is freed
found-freed : (slots : List Slot) (i h : ℕ) (t : Transaction) (q : ℕ) → AreApart slots → slot_at slots i ≡ Some (h, t)
    → found q (set slots i None) ≡ cond (tied q h) None (found q slots)
found-freed [] i h t q apart at = absurd (none-some (h, t) at)
found-freed (None ∷ slots) zero h t q apart at = absurd (none-some (h, t) at)
found-freed (None ∷ slots) (suc i) h t q apart at = found-freed slots i h t q (apart-tail None slots apart) at
found-freed (Some x ∷ slots) zero h t q apart at = of (tied q h) refl
  where
    is : x ≡ (h, t)
    is = same_Some x (h, t) at

    gone : found h slots ≡ None
    gone = found-absent h slots (λ j y at_j same_handle. never j (apart 0 (suc j) x y refl at_j (ap (λ (z : ℕ × Transaction). z.0) is ∙ same_handle)))
      where
        never : (j : ℕ) → 0 ≡ suc j → ⊥
        never j is = omega arith

    of : (b : Bool) → tied q h ≡ b → found q slots ≡ cond b None (cond (tied q x.0) (Some x.1) (found q slots))
    of true tie = subst (λ k. found k slots ≡ None) (sym (same q h tie)) gone
    of false apart_q = sym (ap (λ b. cond b (Some x.1) (found q slots)) (ap (λ (z : ℕ × Transaction). tied q z.0) is ∙ apart_q))
found-freed (Some x ∷ slots) (suc i) h t q apart at =
    ap (cond (tied q x.0) (Some x.1)) (found-freed slots i h t q (apart-tail (Some x) slots apart) at)
    ∙ swapped (tied q x.0) (tied q h) (Some x.1) None (found q slots)
    (λ at_x at_h. never (apart 0 (suc i) x (h, t) refl at (sym (same q x.0 at_x) ∙ same q h at_h)))
  where
    never : 0 ≡ suc i → ⊥
    never is = omega arith

-- THE MAP
pub get-at : (slots : List Slot) (i h : ℕ) (t : Transaction) → AreApart slots → slot_at slots i ≡ Some (h, t) → finite.get (map_in slots) h ≡ Some t
get-at slots i h t apart at = finite.get-from_entries nat_cmp_total (entries_in slots) h ∙ found-at slots i h t apart at

pub at-get : (slots : List Slot) (h : ℕ) (t : Transaction) → finite.get (map_in slots) h ≡ Some t → (i : ℕ) × (i < length slots) × (slot_at slots i ≡ Some (h, t))
at-get slots h t is = slot-found slots h t (sym (finite.get-from_entries nat_cmp_total (entries_in slots) h) ∙ is)

pub map-put : (slots : List Slot) (i h : ℕ) (t : Transaction) → i < length slots → slot_at slots i ≡ None → finite.get (map_in slots) h ≡ None
    → map_in (set slots i (Some (h, t))) ≡ finite.insert (map_in slots) h t
map-put slots i h t lt free new =
    finite.same_map nat_cmp_total finite.nat_cmp-IsAntisymmetric _ _ (λ q.
    finite.get-from_entries nat_cmp_total (entries_in (set slots i (Some (h, t)))) q
    ∙ found-put slots i h t q lt free (sym (finite.get-from_entries nat_cmp_total (entries_in slots) h) ∙ new)
    ∙ ap (cond (tied q h) (Some t)) (sym (finite.get-from_entries nat_cmp_total (entries_in slots) q))
    ∙ sym (finite.get-insert nat_cmp_total (map_in slots) h t q))

pub map-freed : (slots : List Slot) (i h : ℕ) (t : Transaction) → AreApart slots → slot_at slots i ≡ Some (h, t)
    → map_in (set slots i None) ≡ finite.remove (map_in slots) h
map-freed slots i h t apart at =
    finite.same_map nat_cmp_total finite.nat_cmp-IsAntisymmetric _ _ (λ q.
    finite.get-from_entries nat_cmp_total (entries_in (set slots i None)) q
    ∙ found-freed slots i h t q apart at
    ∙ ap (cond (tied q h) None) (sym (finite.get-from_entries nat_cmp_total (entries_in slots) q))
    ∙ sym (finite.get-remove nat_cmp_total (map_in slots) h q))
