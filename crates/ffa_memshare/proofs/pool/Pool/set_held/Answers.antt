-- SPDX-License-Identifier: MIT OR Apache-2.0
use Rattle.std.proofs.Common.{◌≡◌, ◌∙◌, ℕ, List, Some, set, refl, sym, ap, subst}
use Rattle.std.proofs.lemmas.Option.{same_Some}
use Rattle.ffa_model.specs.State.{Transaction}
use Rattle.ffa_model.specs.Transactions.{with_transaction}
use Rattle.ffa_memshare.specs.Held.{held_with, with_holder}
use Rattle.ffa_memshare.specs.Stored.{IsPool, Pooled, Slot, open_in, pool_slot, kept_slots, view_of}
use Rattle.ffa_memshare.proofs.PoolHeld.{held-open, held-pool, held-slots}
use Rattle.ffa_memshare.proofs.Reclaims.{slot-holds, slot-kept}
use Rattle.ffa_memshare.proofs.pool.Pool.set_held.Goals as goal

pub invariant_of-self : goal.invariant_of-self
invariant_of-self g c =
    let xs = g.O.Room.items c.self.inside.slots in
    let k = c.args.slot in
    let e = c.args.endpoint.0 in
    let found = c.at_mut.result.now in
    let old : Pooled = record { slots = kept_slots xs; sent = c.self.inside.sent.items } in
    let (x, some) = c.requires.open in
    let was : pool_slot (kept_slots xs) k ≡ Some x = ap (λ (p : Pooled). pool_slot p.slots k) c.self.view_is ∙ some in
    let (it, is) = slot-holds xs k found x was (c.at_mut.ensures.value found) in
    let there = slot-kept xs k found it x was (c.at_mut.ensures.value found) is in
    subst (λ (slots : List Slot). IsPool (record { slots = slots; sent = c.self.inside.sent.items }))
    (sym (held-slots xs _ k it (held_with it.held e c.args.right) e c.args.right (g.met.O.Room.one_item c.self.inside.slots k c.set_held.new.self ∙ ap (set xs k) (c.set_held.ensures it is)) refl))
    (held-pool old c.self.invariant k it.handle (view_of it) (with_holder (view_of it) e c.args.right) there refl)

pub returns-clause-slots : goal.returns-clause-slots
returns-clause-slots g c h t at =
    let xs = g.O.Room.items c.self.inside.slots in
    let k = c.args.slot in
    let e = c.args.endpoint.0 in
    let found = c.at_mut.result.now in
    let was : pool_slot (kept_slots xs) k ≡ Some (h, t) = ap (λ (p : Pooled). pool_slot p.slots k) c.self.view_is ∙ at in
    let (it, is) = slot-holds xs k found (h, t) was (c.at_mut.ensures.value found) in
    let there = slot-kept xs k found it (h, t) was (c.at_mut.ensures.value found) is in
    held-slots xs _ k it (held_with it.held e c.args.right) e c.args.right (g.met.O.Room.one_item c.self.inside.slots k c.set_held.new.self ∙ ap (set xs k) (c.set_held.ensures it is)) refl
    ∙ ap (λ (x : ℕ × Transaction). set (kept_slots xs) k (Some (x.0, with_holder x.1 e c.args.right))) (same_Some _ (h, t) (sym there ∙ was))
    ∙ ap (λ (p : Pooled). set p.slots k (Some (h, with_holder t e c.args.right))) c.self.view_is

pub returns-clause-open_transactions : goal.returns-clause-open_transactions
returns-clause-open_transactions g c h t at =
    let xs = g.O.Room.items c.self.inside.slots in
    let k = c.args.slot in
    let e = c.args.endpoint.0 in
    let found = c.at_mut.result.now in
    let old : Pooled = record { slots = kept_slots xs; sent = c.self.inside.sent.items } in
    let was : pool_slot (kept_slots xs) k ≡ Some (h, t) = ap (λ (p : Pooled). pool_slot p.slots k) c.self.view_is ∙ at in
    let (it, is) = slot-holds xs k found (h, t) was (c.at_mut.ensures.value found) in
    let there = slot-kept xs k found it (h, t) was (c.at_mut.ensures.value found) is in
    ap (λ (slots : List Slot). open_in (record { slots = slots; sent = c.self.inside.sent.items }))
    (held-slots xs _ k it (held_with it.held e c.args.right) e c.args.right (g.met.O.Room.one_item c.self.inside.slots k c.set_held.new.self ∙ ap (set xs k) (c.set_held.ensures it is)) refl
    ∙ ap (λ (x : ℕ × Transaction). set (kept_slots xs) k (Some (x.0, with_holder x.1 e c.args.right))) (same_Some _ (h, t) (sym there ∙ was)))
    ∙ held-open old c.self.invariant k h t (with_holder t e c.args.right) was
    ∙ ap (λ (p : Pooled). with_transaction (open_in p) h (with_holder t e c.args.right)) c.self.view_is
