-- SPDX-License-Identifier: MIT OR Apache-2.0
use Rattle.std.proofs.Common.{arith, ◌<◌, ◌%◌, length, sym, subst}
use Rattle.ffa_tlb.specs.Lookups.{IsForgotten}
use Rattle.ffa_tlb.specs.Slots.{Slotted, entries_of}
use Rattle.ffa_tlb.proofs.Slots.{none_forgotten, filled_forgotten, lookup_put, distinct_put}
use Rattle.ffa_tlb.proofs.tlb.TlbTranslations.fill.Goals as goal

pub invariant_of-self : goal.invariant_of-self
invariant_of-self g c =
    let forgotten : IsForgotten (entries_of c.args.self.now.slots) (entries_of c.self.inside.slots) c.args.endpoint.0 c.args.page.0 = subst (λ (seen : Slotted _). IsForgotten (entries_of c.args.self.now.slots) (entries_of seen.slots) c.args.endpoint.0 c.args.page.0) (sym c.self.view_is) c.forget.ensures.forgotten in
    (c.self.invariant.0, distinct_put c.self.inside.slots (c.pick-slot.result % g.row.N) _ c.self.invariant.1 (none_forgotten _ _ _ _ forgotten))

pub returns-clause-filled : goal.returns-clause-filled
returns-clause-filled g c =
    let forgotten : IsForgotten (entries_of c.args.self.now.slots) (entries_of c.self.inside.slots) c.args.endpoint.0 c.args.page.0 = subst (λ (seen : Slotted _). IsForgotten (entries_of c.args.self.now.slots) (entries_of seen.slots) c.args.endpoint.0 c.args.page.0) (sym c.self.view_is) c.forget.ensures.forgotten in
    let within : c.pick-slot.result % g.row.N < length c.self.inside.slots = omega (arith, c.self.told, c.self.invariant.0) in
    filled_forgotten (entries_of c.args.self.now.slots) c.self.inside.slots (c.pick-slot.result % g.row.N) _ within c.self.invariant.1 forgotten

pub returns-clause-held : goal.returns-clause-held
returns-clause-held g c =
    let forgotten : IsForgotten (entries_of c.args.self.now.slots) (entries_of c.self.inside.slots) c.args.endpoint.0 c.args.page.0 = subst (λ (seen : Slotted _). IsForgotten (entries_of c.args.self.now.slots) (entries_of seen.slots) c.args.endpoint.0 c.args.page.0) (sym c.self.view_is) c.forget.ensures.forgotten in
    let within : c.pick-slot.result % g.row.N < length c.self.inside.slots = omega (arith, c.self.told, c.self.invariant.0) in
    lookup_put c.self.inside.slots (c.pick-slot.result % g.row.N) _ within (none_forgotten _ _ _ _ forgotten)
