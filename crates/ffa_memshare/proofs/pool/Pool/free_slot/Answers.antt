-- SPDX-License-Identifier: MIT OR Apache-2.0
use Rattle.std.proofs.Common.{◌≡◌, ◌∙◌, ◌<◌, length, sym, ap, subst, arith, inl, inr}
use Rattle.std.specs.Prelude.{nat_lt, true, false}
use Rattle.std.proofs.lemmas.Bool.{cases_eq}
use Rattle.std.proofs.lemmas.List.{length-map}
use Rattle.ffa_model.specs.declared.limits.TheConstants.{MOST_OPEN}
use Rattle.ffa_model.specs.Identifiers.{place}
use Rattle.ffa_model.specs.Transactions.{open_count}
use Rattle.ffa_memshare.specs.SlotChanges.{IsFree}
use Rattle.ffa_memshare.specs.Stored.{Pooled, open_in, pool_slot, kept_slot, kept_slots}
use Rattle.ffa_memshare.proofs.FreeSlots.{all-open, few-open, slot-free, slot-taken}
use Rattle.ffa_memshare.proofs.pool.Pool.free_slot.Goals as goal

pub loop-slot-init : goal.loop-slot-init
loop-slot-init g c = record { from = omega (arith, c.place-first.ensures); taken = λ k from to. absurd (omega (arith, c.place-first.ensures)) }

pub returns-then-is_free-clause-free : goal.returns-then-is_free-clause-free
returns-then-is_free-clause-free g c =
    let items = g.O.Room.items c.self.inside.slots in
    let k = c.loop-slot.slot in
    let size = ap (λ (p : Pooled). length p.sent) c.self.view_is in
    let lt : k < length items =
    omega (arith, c.loop-slot-test.true, c.place-first.ensures, c.requires.place, c.self.invariant.size, length-map items kept_slot, size) in
    record {
      within = omega (arith, lt, length-map items kept_slot, ap (λ (p : Pooled). length p.slots) c.self.view_is);
      own = omega (arith, c.loop-slot-test.true, c.place-first.ensures, c.loop-slot.invariant.from);
      free = ap (λ (p : Pooled). pool_slot p.slots k) (sym c.self.view_is)
          ∙ slot-free items k c.at.result.now lt (c.at.ensures c.at.result.now) c.if-is_free.ensures;
    }

pub returns-then-is_free-clause-few : goal.returns-then-is_free-clause-few
returns-then-is_free-clause-few g c =
    sym (subst (λ (p : Pooled). nat_lt (open_count (open_in p) c.args.sender.0) MOST_OPEN ≡ true) c.self.view_is
    (few-open (record { slots = kept_slots (g.O.Room.items c.self.inside.slots); sent = c.self.inside.sent.items }) c.self.invariant c.args.sender.0 c.requires.known
    (omega (arith, c.requires.place, ap (λ (p : Pooled). length p.sent) c.self.view_is)) c.loop-slot.slot
    (subst (λ (p : Pooled). IsFree p.slots (place c.args.sender.0) c.loop-slot.slot) (sym c.self.view_is) (returns-then-is_free-clause-free g c))))

pub loop-slot-preserved : goal.loop-slot-preserved
loop-slot-preserved g c =
    let items = g.O.Room.items c.self.inside.slots in
    let slot = c.loop-slot.slot in
    let size = ap (λ (p : Pooled). length p.sent) c.self.view_is in
    let lt : slot < length items =
    omega (arith, c.loop-slot-test.true, c.place-first.ensures, c.requires.place, c.self.invariant.size, length-map items kept_slot, size) in
    let (x, at) = slot-taken items slot c.at.result.now lt (c.at.ensures c.at.result.now) c.if-is_free.ensures in
    record {
      from = omega (arith, c.loop-slot.invariant.from);
      taken = λ k from to. elim (cases_eq k slot) [
        | inl same ↦ (x, ap (pool_slot c.args.self.now.slots) same ∙ sym (ap (λ (p : Pooled). pool_slot p.slots slot) c.self.view_is) ∙ at)
        | inr apart ↦ c.loop-slot.invariant.taken k from (omega arith)
      ];
    }

pub returns-clause-few : goal.returns-clause-few
returns-clause-few g c =
    sym (subst (λ (p : Pooled). nat_lt (open_count (open_in p) c.args.sender.0) MOST_OPEN ≡ false) c.self.view_is
    (all-open (record { slots = kept_slots (g.O.Room.items c.self.inside.slots); sent = c.self.inside.sent.items }) c.self.invariant c.args.sender.0 c.requires.known
    (omega (arith, c.requires.place, ap (λ (p : Pooled). length p.sent) c.self.view_is))
    (λ k from to. let (x, at) = c.loop-slot.invariant.taken k from (omega (arith, c.loop-slot-test.false, c.place-first.ensures)) in (x, ap (λ (p : Pooled). pool_slot p.slots k) c.self.view_is ∙ at))))

pub returns-then-is_free-clause-fits : goal.returns-then-is_free-clause-fits
returns-then-is_free-clause-fits g c =
    let size = ap (λ (p : Pooled). length p.sent) c.self.view_is in
    omega (arith, c.loop-slot-test.true, c.place-first.ensures, c.requires.place, c.self.invariant.few, size)
