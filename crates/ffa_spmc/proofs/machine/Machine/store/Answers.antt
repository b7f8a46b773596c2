-- SPDX-License-Identifier: MIT OR Apache-2.0
use Rattle.std.proofs.Common.{◌∙◌, refl, sym, ap, subst}
use Rattle.ffa_model.specs.declared.operation.Op.TheVariants.{Store}
use Rattle.ffa_spmc.specs.Cached.{missed_page}
use Rattle.ffa_spmc.specs.Machines.{IsMachine}
use Rattle.ffa_spmc.specs.Operated.{IsDone}
use Rattle.ffa_spmc.specs.Snapshot.{Snapshot, snapshot_of}
use Rattle.ffa_spmc.specs.Walks.{walk_of}
use Rattle.ffa_spmc.proofs.CachedAccesses.{access-done, answer-same, machine-left, missed-same}
use Rattle.ffa_spmc.proofs.machine.Machine.store.Goals as goal

pub invariant_of-self : goal.invariant_of-self
invariant_of-self g c =
    let n = c.store.new.self in
    let old = snapshot_of c.self.inside.manager (g.T.Translations.entries c.self.inside.cache) c.self.inside.news in
    let was : IsMachine old = record { managed = c.holds.ensures; walks = c.self.invariant.0; rest = c.self.invariant.1 } in
    machine-left old n.state n.ram n.past (Store c.args.addr c.args.size c.args.value) c.args.addr refl was c.store.ensures.state c.holds-2.ensures c.store.ensures.moments

pub fill-requires-clause-answer : goal.fill-requires-clause-answer
fill-requires-clause-answer g c =
    let n = c.store.new.self in
    let old = snapshot_of c.self.inside.manager (g.T.Translations.entries c.self.inside.cache) c.self.inside.news in
    let was : IsMachine old = record { managed = c.holds.ensures; walks = c.self.invariant.0; rest = c.self.invariant.1 } in
    c.walk-walked.ensures.answer
    ∙ ap (λ (seen : Snapshot). walk_of seen.ram seen.state seen.state.runner c.args.addr) (sym c.self.view_is)
    ∙ answer-same old n.state n.ram n.past (Store c.args.addr c.args.size c.args.value) c.args.addr refl was c.store.ensures.state c.holds-2.ensures c.store.ensures.moments

pub fill-requires-clause-missed : goal.fill-requires-clause-missed
fill-requires-clause-missed g c =
    let n = c.store.new.self in
    let old = snapshot_of c.self.inside.manager (g.T.Translations.entries c.self.inside.cache) c.self.inside.news in
    let was : IsMachine old = record { managed = c.holds.ensures; walks = c.self.invariant.0; rest = c.self.invariant.1 } in
    c.walk-walked.ensures.missed
    ∙ ap (λ (seen : Snapshot). missed_page seen c.args.addr) (sym c.self.view_is)
    ∙ missed-same old n.state n.ram n.past (Store c.args.addr c.args.size c.args.value) c.args.addr refl was c.store.ensures.state

pub returns : goal.returns
returns g c =
    let n = c.store.new.self in
    let op = Store c.args.addr c.args.size c.args.value in
    let old = snapshot_of c.self.inside.manager (g.T.Translations.entries c.self.inside.cache) c.self.inside.news in
    let was : IsMachine old = record { managed = c.holds.ensures; walks = c.self.invariant.0; rest = c.self.invariant.1 } in
    subst (λ (seen : Snapshot). IsDone seen op c.store.result c.fill.new.self) c.self.view_is
    (access-done old n.state n.ram n.past op c.args.addr refl was c.store.ensures.state c.fill.new.self c.holds-3.ensures c.store.result c.fill.ensures
    c.store.ensures.outcome (λ its i. snapshot_of (c.store.ensures.refused its i) old.held old.told)
    c.store.ensures.unowned c.store.ensures.moments c.store.ensures.few)
