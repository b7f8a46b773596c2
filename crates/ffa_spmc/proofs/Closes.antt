-- SPDX-License-Identifier: MIT OR Apache-2.0
-- One slot of the pool is changed: which slot names a page then.
use Rattle.std.proofs.Common.{◌≡◌, ◌∙◌, ◌⊎◌, ℕ, ◌<◌, Bool, true, false, cond, List, length, set, Option, Some, None, refl, sym, ap, subst, inl, inr}
use Rattle.std.specs.Option.{option_and_then, option_map}
use Rattle.std.proofs.lemmas.Bool.{cases_eq, cases_lt, false≢true}
use Rattle.std.proofs.lemmas.List.{get_or-set_other, get_or-set_same, get_or_past}
use Rattle.std.proofs.lemmas.Option.{none-some, same_Some}
use Rattle.ffa_model.specs.declared.manifest.Manifest.{Manifest}
use Rattle.ffa_model.specs.declared.rights.Rights.{Rights}
use Rattle.ffa_model.specs.State.{Transaction}
use Rattle.ffa_pages.specs.Entry.{Entry, entry_at, slot_at}
use Rattle.ffa_memshare.specs.Changes.{IsMarked}
use Rattle.ffa_memshare.specs.Held.{with_holder}
use Rattle.ffa_memshare.specs.Ranges.{in_ranges}
use Rattle.ffa_memshare.specs.Stored.{Slot, pool_slot}
use Rattle.ffa_memshare.specs.declared.marks.Mark.TheVariants.{Named}
use Rattle.ffa_spmc.specs.Meaning.{AreOpenTransactions, IsOffered, slot_names}

-- a slot that has a transaction is one of the pool's
within : (slots : List Slot) (k : ℕ) (x : ℕ × Transaction) → pool_slot slots k ≡ Some x → k < length slots
within slots k x at = elim (cases_lt k (length slots)) [
  | inl lt ↦ lt
  | inr past ↦ absurd (none-some x (sym (get_or_past slots k None past) ∙ at))
]

-- an endpoint holds the transaction in a slot with another right, or holds it no more
module _ (m : Manifest) (pages : List (Option Entry)) (slots : List Slot) (open_transactions : AreOpenTransactions m pages slots) (k h : ℕ) (t : Transaction) (at : pool_slot slots k ≡ Some (h, t))
    (e : ℕ) (right : Option Rights) where
  abbrev reheld : List Slot
  reheld = set slots k (Some (h, with_holder t e right))

  reset : pool_slot reheld k ≡ Some (h, with_holder t e right)
  reset = get_or-set_same slots k (Some (h, with_holder t e right)) None (within slots k (h, t) at)

  others : (j : ℕ) → (j ≡ k → ⊥) → pool_slot reheld j ≡ pool_slot slots j
  others j apart = get_or-set_other slots k j (Some (h, with_holder t e right)) None apart

  names-alike : (p j : ℕ) → slot_names m.ram_base.0 p (pool_slot reheld j) ≡ slot_names m.ram_base.0 p (pool_slot slots j)
  names-alike p j = elim (cases_eq j k) [
    | inl same ↦
        ap (λ i. slot_names m.ram_base.0 p (pool_slot reheld i)) same ∙ ap (slot_names m.ram_base.0 p) reset
        ∙ sym (ap (λ i. slot_names m.ram_base.0 p (pool_slot slots i)) same ∙ ap (slot_names m.ram_base.0 p) at)
    | inr apart ↦ ap (slot_names m.ram_base.0 p) (others j apart)
  ]

  -- what was in a slot before
  record WasIn (j : ℕ) (y : ℕ × Transaction) : Type 0 where
    pub old : ℕ × Transaction
    pub was : pool_slot slots j ≡ Some old
    pub handle : old.0 ≡ y.0
    pub offered : IsOffered m old.1 → IsOffered m y.1

  was-in : (j : ℕ) (y : ℕ × Transaction) → pool_slot reheld j ≡ Some y → WasIn j y
  was-in j y is = elim (cases_eq j k) [
    | inl same ↦
        (let now : (h, with_holder t e right) ≡ y = same_Some (h, with_holder t e right) y (sym reset ∙ ap (pool_slot reheld) (sym same) ∙ is) in
        record {
          old = (h, t);
          was = ap (pool_slot slots) same ∙ at;
          handle = ap (λ (z : ℕ × Transaction). z.0) now;
          offered = λ good. subst (λ (z : ℕ × Transaction). IsOffered m z.1) now (record { placed = good.placed; other = good.other });
        })
    | inr apart ↦ record { old = y; was = sym (others j apart) ∙ is; handle = refl; offered = λ good. good }
  ]

  pub open-reheld : AreOpenTransactions m pages reheld
  open-reheld =
      record {
        apart = λ i j y z at_i at_j same.
            let a = was-in i y at_i in
            let b = was-in j z at_j in
            open_transactions.apart i j a.old b.old a.was b.was (a.handle ∙ same ∙ sym b.handle);
        offered = λ j g u is. let a = was-in j (g, u) is in a.offered (open_transactions.offered j a.old.0 a.old.1 a.was);
        marks = λ p j lt. (
          λ is. names-alike p j ∙ (open_transactions.marks p j lt).0 is,
          λ names. (open_transactions.marks p j lt).1 (sym (names-alike p j) ∙ names),
        );
      }

-- the slot of a page after a mark
pub slot-marked : (old new : List (Option Entry)) (named : ℕ → Bool) → IsMarked old new named (Named None) → (p : ℕ)
    → slot_at new p ≡ cond (named p) None (slot_at old p)
slot-marked old new named marked p = ap (option_and_then (λ (e : Entry). e.slot)) (marked.entries p) ∙ of (named p) (entry_at old p)
  where
    of : (b : Bool) (o : Option Entry)
        → option_and_then (λ (e : Entry). e.slot) (cond b (option_map (λ (e : Entry). record e { slot = None }) o) o) ≡ cond b None (option_and_then (λ (e : Entry). e.slot) o)
    of true None = refl
    of true (Some e) = refl
    of false o = refl

-- the slot of a transaction is freed, and no page's entry has it any more
module _ (m : Manifest) (pages next : List (Option Entry)) (slots : List Slot) (open_transactions : AreOpenTransactions m pages slots) (k h : ℕ) (t : Transaction) (at : pool_slot slots k ≡ Some (h, t))
    (unmarked : (p : ℕ) → slot_at next p ≡ cond (in_ranges m.ram_base.0 t.ranges p) None (slot_at pages p)) (size : length next ≡ length pages) where
  abbrev freed : List Slot
  freed = set slots k None

  gone : pool_slot freed k ≡ None
  gone = get_or-set_same slots k None None (within slots k (h, t) at)

  beside : (j : ℕ) → (j ≡ k → ⊥) → pool_slot freed j ≡ pool_slot slots j
  beside j apart = get_or-set_other slots k j None None apart

  still : (j : ℕ) (y : ℕ × Transaction) → pool_slot freed j ≡ Some y → pool_slot slots j ≡ Some y
  still j y is = elim (cases_eq j k) [
    | inl same ↦ absurd (none-some y (sym (ap (pool_slot freed) same ∙ gone) ∙ is))
    | inr apart ↦ sym (beside j apart) ∙ is
  ]

  module _ (p : ℕ) (lt : p < length pages) where
    -- of a page that the transaction names
    here : in_ranges m.ram_base.0 t.ranges p ≡ true → slot_at pages p ≡ Some k
    here named = (open_transactions.marks p k lt).1 (ap (slot_names m.ram_base.0 p) at ∙ named)

    to-slot : (j : ℕ) → slot_at next p ≡ Some j → slot_names m.ram_base.0 p (pool_slot freed j) ≡ true
    to-slot j is = of (in_ranges m.ram_base.0 t.ranges p) refl (sym (unmarked p) ∙ is)
      where
        of : (b : Bool) → in_ranges m.ram_base.0 t.ranges p ≡ b → cond b None (slot_at pages p) ≡ Some j → slot_names m.ram_base.0 p (pool_slot freed j) ≡ true
        of true named none = absurd (none-some j none)
        of false other was = elim (cases_eq j k) [
          | inl same ↦ absurd (false≢true (sym other ∙ sym (ap (slot_names m.ram_base.0 p) at) ∙ (open_transactions.marks p k lt).0 (was ∙ ap Some same)))
          | inr apart ↦ ap (slot_names m.ram_base.0 p) (beside j apart) ∙ (open_transactions.marks p j lt).0 was
        ]

    from-slot : (j : ℕ) → slot_names m.ram_base.0 p (pool_slot freed j) ≡ true → slot_at next p ≡ Some j
    from-slot j names = elim (cases_eq j k) [
      | inl same ↦ absurd (false≢true (sym (ap (slot_names m.ram_base.0 p) (ap (pool_slot freed) same ∙ gone)) ∙ names))
      | inr apart ↦
          (let was : slot_at pages p ≡ Some j = (open_transactions.marks p j lt).1 (sym (ap (slot_names m.ram_base.0 p) (beside j apart)) ∙ names) in
          unmarked p ∙ of (in_ranges m.ram_base.0 t.ranges p) refl j apart was)
    ]
      where
        of : (b : Bool) → in_ranges m.ram_base.0 t.ranges p ≡ b → (j : ℕ) → (j ≡ k → ⊥) → slot_at pages p ≡ Some j → cond b None (slot_at pages p) ≡ Some j
        of true named j apart was = absurd (apart (same_Some j k (sym was ∙ here named)))
        of false other j apart was = was

  pub open-closed : AreOpenTransactions m next freed
  open-closed =
      record {
        apart = λ i j y z at_i at_j same. open_transactions.apart i j y z (still i y at_i) (still j z at_j) same;
        offered = λ j g u is. open_transactions.offered j g u (still j (g, u) is);
        marks = λ p j lt. (
          to-slot p (subst (λ (n : ℕ). p < n) size lt) j,
          from-slot p (subst (λ (n : ℕ). p < n) size lt) j,
        );
      }

-- the slot of a page after a mark with a slot, of pages that endpoints own
pub slot-opened : (old new : List (Option Entry)) (named : ℕ → Bool) (k : ℕ) → IsMarked old new named (Named (Some k)) → (p : ℕ)
    → (named p ≡ true → (e : Entry) × (entry_at old p ≡ Some e)) → slot_at new p ≡ cond (named p) (Some k) (slot_at old p)
slot-opened old new named k marked p owned = ap (option_and_then (λ (e : Entry). e.slot)) (marked.entries p) ∙ of (named p) owned
  where
    of : (b : Bool) → (b ≡ true → (e : Entry) × (entry_at old p ≡ Some e))
        → option_and_then (λ (e : Entry). e.slot) (cond b (option_map (λ (e : Entry). record e { slot = Some k }) (entry_at old p)) (entry_at old p)) ≡ cond b (Some k) (slot_at old p)
    of true its =
        let (e, is) = its refl in
        ap (λ (o : Option Entry). option_and_then (λ (f : Entry). f.slot) (option_map (λ (f : Entry). record f { slot = Some k }) o)) is
    of false its = refl

-- a free slot has a new transaction, and the entries of its pages have the slot
module _ (m : Manifest) (pages next : List (Option Entry)) (slots : List Slot) (open_transactions : AreOpenTransactions m pages slots) (k h : ℕ) (t : Transaction)
    (lt : k < length slots) (free : pool_slot slots k ≡ None) (new : (j : ℕ) (y : ℕ × Transaction) → pool_slot slots j ≡ Some y → y.0 ≡ h → ⊥) (good : IsOffered m t)
    (unnamed : (p : ℕ) → p < length pages → in_ranges m.ram_base.0 t.ranges p ≡ true → slot_at pages p ≡ None)
    (marked : (p : ℕ) → p < length pages → slot_at next p ≡ cond (in_ranges m.ram_base.0 t.ranges p) (Some k) (slot_at pages p)) (size : length next ≡ length pages) where
  abbrev filled : List Slot
  filled = set slots k (Some (h, t))

  put : pool_slot filled k ≡ Some (h, t)
  put = get_or-set_same slots k (Some (h, t)) None lt

  rest : (j : ℕ) → (j ≡ k → ⊥) → pool_slot filled j ≡ pool_slot slots j
  rest j apart = get_or-set_other slots k j (Some (h, t)) None apart

  -- what is in a slot is the new one or was there
  either : (j : ℕ) (y : ℕ × Transaction) → pool_slot filled j ≡ Some y → ((j ≡ k) × ((h, t) ≡ y)) ⊎ (pool_slot slots j ≡ Some y)
  either j y is = elim (cases_eq j k) [
    | inl same ↦ inl (same, same_Some (h, t) y (sym put ∙ ap (pool_slot filled) (sym same) ∙ is))
    | inr apart ↦ inr (sym (rest j apart) ∙ is)
  ]

  apart-opened : (i j : ℕ) (y z : ℕ × Transaction) → pool_slot filled i ≡ Some y → pool_slot filled j ≡ Some z → y.0 ≡ z.0 → i ≡ j
  apart-opened i j y z at_i at_j same = of (either i y at_i) (either j z at_j)
    where
      of : ((i ≡ k) × ((h, t) ≡ y)) ⊎ (pool_slot slots i ≡ Some y) → ((j ≡ k) × ((h, t) ≡ z)) ⊎ (pool_slot slots j ≡ Some z) → i ≡ j
      of (inl a) (inl b) = a.0 ∙ sym b.0
      of (inl a) (inr b) = absurd (new j z b (sym same ∙ sym (ap (λ (w : ℕ × Transaction). w.0) a.1)))
      of (inr a) (inl b) = absurd (new i y a (same ∙ sym (ap (λ (w : ℕ × Transaction). w.0) b.1)))
      of (inr a) (inr b) = open_transactions.apart i j y z a b same

  offered-opened : (j g : ℕ) (u : Transaction) → pool_slot filled j ≡ Some (g, u) → IsOffered m u
  offered-opened j g u is = of (g, u) (either j (g, u) is)
    where
      of : (y : ℕ × Transaction) → ((j ≡ k) × ((h, t) ≡ y)) ⊎ (pool_slot slots j ≡ Some y) → IsOffered m y.1
      of y (inl a) = subst (λ (w : ℕ × Transaction). IsOffered m w.1) a.1 good
      of y (inr b) = open_transactions.offered j y.0 y.1 b

  module _ (p : ℕ) (inside : p < length pages) where
    to-opened : (j : ℕ) → slot_at next p ≡ Some j → slot_names m.ram_base.0 p (pool_slot filled j) ≡ true
    to-opened j is = of (in_ranges m.ram_base.0 t.ranges p) refl (sym (marked p inside) ∙ is)
      where
        of : (b : Bool) → in_ranges m.ram_base.0 t.ranges p ≡ b → cond b (Some k) (slot_at pages p) ≡ Some j → slot_names m.ram_base.0 p (pool_slot filled j) ≡ true
        of true named at = ap (λ i. slot_names m.ram_base.0 p (pool_slot filled i)) (sym (same_Some k j at)) ∙ ap (slot_names m.ram_base.0 p) put ∙ named
        of false other was = elim (cases_eq j k) [
          | inl same ↦ absurd (false≢true (sym (ap (λ i. slot_names m.ram_base.0 p (pool_slot slots i)) same ∙ ap (slot_names m.ram_base.0 p) free) ∙ (open_transactions.marks p j inside).0 was))
          | inr apart ↦ ap (slot_names m.ram_base.0 p) (rest j apart) ∙ (open_transactions.marks p j inside).0 was
        ]

    from-opened : (j : ℕ) → slot_names m.ram_base.0 p (pool_slot filled j) ≡ true → slot_at next p ≡ Some j
    from-opened j names = elim (cases_eq j k) [
      | inl same ↦
          (let named : in_ranges m.ram_base.0 t.ranges p ≡ true = sym (ap (λ i. slot_names m.ram_base.0 p (pool_slot filled i)) same ∙ ap (slot_names m.ram_base.0 p) put) ∙ names in
          marked p inside ∙ ap (λ b. cond b (Some k) (slot_at pages p)) named ∙ ap Some (sym same))
      | inr apart ↦
          (let was : slot_at pages p ≡ Some j = (open_transactions.marks p j inside).1 (sym (ap (slot_names m.ram_base.0 p) (rest j apart)) ∙ names) in
          marked p inside ∙ of (in_ranges m.ram_base.0 t.ranges p) refl was)
    ]
      where
        of : (b : Bool) → in_ranges m.ram_base.0 t.ranges p ≡ b → slot_at pages p ≡ Some j → cond b (Some k) (slot_at pages p) ≡ Some j
        of true named was = absurd (none-some j (sym (unnamed p inside named) ∙ was))
        of false other was = was

  pub open-opened : AreOpenTransactions m next filled
  open-opened =
      record {
        apart = apart-opened;
        offered = offered-opened;
        marks = λ p j inside. (
          to-opened p (subst (λ (n : ℕ). p < n) size inside) j,
          from-opened p (subst (λ (n : ℕ). p < n) size inside) j,
        );
      }
