-- SPDX-License-Identifier: MIT OR Apache-2.0
-- A transaction that stays in its slot, and is held otherwise.
use Rattle.std.proofs.Common.{◌≡◌, ◌∙◌, ℕ, ◌<◌, Bool, true, false, cond, List, length, set, set-set, Option, Some, None, refl, sym, ap, subst, inl, inr}
use Rattle.std.specs.Ordering.{nat_cmp, eq_by_cmp}
use Rattle.std.specs.FinMap as finite
use Rattle.std.specs.Cmp.{nat_cmp_total, unsigned_tied}
use Rattle.std.proofs.lemmas.Bool.{cases_eq, cases_lt, eq-eqb}
use Rattle.std.proofs.lemmas.List.{get_or-set_other, get_or-set_same, length-set}
use Rattle.std.proofs.lemmas.Option.{none-some, same_Some}
use Rattle.ffa_model.specs.State.{Transaction}
use Rattle.ffa_model.specs.Transactions.{handle_of, with_transaction}
use Rattle.ffa_model.proofs.Slots.{map-freed, map-put}
use Rattle.ffa_model.specs.declared.rights.Rights.{Rights}
use Rattle.ffa_memshare.specs.declared.transaction.OpenTransaction.{OpenTransaction}
use Rattle.ffa_memshare.specs.Held.{Held, held_with, with_holder}
use Rattle.ffa_memshare.specs.Stored.{IsInPlace, IsPool, Pooled, Slot, map_in, open_in, pool_slot, kept_slots, view_of}
use Rattle.ffa_memshare.proofs.PoolKept.{past-none, slots-put}

-- a slot that has a transaction is one of the slots
pub slot-within : (slots : List Slot) (k : ℕ) (x : ℕ × Transaction) → pool_slot slots k ≡ Some x → k < length slots
slot-within slots k x at = elim (cases_lt k (length slots)) [
  | inl lt ↦ lt
  | inr past ↦ absurd (none-some x (sym (past-none slots k past) ∙ at))
]

module _ (kept : Pooled) (pool : IsPool kept) (k h : ℕ) (t u : Transaction) (at : pool_slot kept.slots k ≡ Some (h, t)) where
  lt : k < length kept.slots
  lt = slot-within kept.slots k (h, t) at

  abbrev pub after : Pooled
  after = record { slots = set kept.slots k (Some (h, u)); sent = kept.sent }

  here : (x : ℕ × Transaction) → pool_slot after.slots k ≡ Some x → (h, u) ≡ x
  here x at_k = same_Some (h, u) x (sym (get_or-set_same kept.slots k (Some (h, u)) None lt) ∙ at_k)

  -- a slot has the handle that it had
  before : (j : ℕ) (x : ℕ × Transaction) → pool_slot after.slots j ≡ Some x → (y : ℕ × Transaction) × (pool_slot kept.slots j ≡ Some y) × (y.0 ≡ x.0)
  before j x at_j = elim (cases_eq j k) [
    | inl same ↦
        ((h, t), ap (pool_slot kept.slots) same ∙ at, ap (λ (z : ℕ × Transaction). z.0) (here x (ap (pool_slot after.slots) (sym same) ∙ at_j)))
    | inr apart ↦ (x, sym (get_or-set_other kept.slots k j (Some (h, u)) None apart) ∙ at_j, refl)
  ]

  pub held-pool : u.sender ≡ t.sender → IsPool after
  held-pool sender =
      record {
        size = length-set kept.slots k (Some (h, u)) ∙ pool.size;
        few = pool.few;
        most = pool.most;
        places = λ j g v at_j. elim (cases_eq j k) [
          | inl same ↦
              let its = pool.places k h t at in
              let is : (h, u) ≡ (g, v) = here (g, v) (ap (pool_slot after.slots) (sym same) ∙ at_j) in
              subst (λ m. IsInPlace kept.sent m g v) (sym same)
              (subst (λ (x : ℕ × Transaction). IsInPlace kept.sent k x.0 x.1) is
              (record { sender = sender ∙ its.sender; number = (its.number.0, its.number.1 ∙ ap (λ e. handle_of e its.number.0) (sym sender), its.number.2, its.number.3) }))
          | inr apart ↦ pool.places j g v (sym (get_or-set_other kept.slots k j (Some (h, u)) None apart) ∙ at_j)
        ];
        apart = λ i j x y at_i at_j same.
            let p = before i x at_i in
            let q = before j y at_j in
            pool.apart i j p.0 q.0 p.1 q.1 (p.2 ∙ same ∙ sym q.2);
      }

  abbrev freed : List Slot
  freed = set kept.slots k None

  abbrev tied : ℕ → Bool
  tied q = eq_by_cmp nat_cmp q h

  gone : map_in freed ≡ finite.remove (map_in kept.slots) h
  gone = map-freed kept.slots k h t pool.apart at

  once : (b : Bool) (o x : Option Transaction) → cond b o (cond b None x) ≡ cond b o x
  once true o x = refl
  once false o x = refl

  replaced : map_in after.slots ≡ finite.insert (map_in kept.slots) h u
  replaced =
      ap map_in (sym (set-set kept.slots k None (Some (h, u))))
      ∙ map-put freed k h u (subst (λ n. k < n) (sym (length-set kept.slots k None)) lt) (get_or-set_same kept.slots k None None lt)
      (ap (λ m. finite.get m h) gone ∙ finite.get-remove nat_cmp_total (map_in kept.slots) h h
      ∙ ap (λ b. cond b None (finite.get (map_in kept.slots) h)) (unsigned_tied h h ∙ eq-eqb h h refl))
      ∙ ap (λ m. finite.insert m h u) gone
      ∙ finite.same_map nat_cmp_total finite.nat_cmp-IsAntisymmetric _ _ (λ q.
      finite.get-insert nat_cmp_total (finite.remove (map_in kept.slots) h) h u q
      ∙ ap (cond (tied q) (Some u)) (finite.get-remove nat_cmp_total (map_in kept.slots) h q)
      ∙ once (tied q) (Some u) (finite.get (map_in kept.slots) q)
      ∙ sym (finite.get-insert nat_cmp_total (map_in kept.slots) h u q))

  -- and the pool means the open transactions with the transaction as it is now
  pub held-open : open_in after ≡ with_transaction (open_in kept) h u
  held-open = λ i. record { transactions = replaced i; sent = kept.sent }

-- in the code: its holders were written where it lies
pub held-slots : (xs after : List (Option OpenTransaction)) (k : ℕ) (t : OpenTransaction) (m : Held) (e : ℕ) (right : Option Rights)
    → after ≡ set xs k (Some (record t { held = m })) → m ≡ held_with t.held e right
    → kept_slots after ≡ set (kept_slots xs) k (Some (t.handle, with_holder (view_of t) e right))
held-slots xs after k t m e right same is =
    slots-put xs after k (Some (record t { held = m })) same
    ∙ ap (λ (h : Held). set (kept_slots xs) k (Some (t.handle, record (view_of t) { held = h }))) is
