-- SPDX-License-Identifier: MIT OR Apache-2.0
use Rattle.std.proofs.Common.{subst, sym}
use Rattle.ffa_model.specs.declared.operation.Op.{Op}
use Rattle.ffa_model.specs.declared.operation.Op.TheVariants.{Call}
use Rattle.ffa_spmc.specs.Machines.{IsMachine}
use Rattle.ffa_spmc.specs.Operated.{IsDone}
use Rattle.ffa_spmc.specs.Snapshot.{Snapshot, snapshot_of}
use Rattle.ffa_spmc.proofs.Done.{called, machine-after-call}
use Rattle.ffa_spmc.proofs.machine.Machine.do_op.Goals as goal

pub invariant_of-self : goal.invariant_of-self
invariant_of-self g c =
    let old = snapshot_of c.self.inside.manager (g.T.Translations.entries c.self.inside.cache) c.self.inside.news in
    let new = snapshot_of c.call.new.self (g.T.Translations.entries c.call.new.cache) c.call.new.news in
    let was : IsMachine old = record { managed = c.holds.ensures; walks = c.self.invariant.0; rest = c.self.invariant.1 } in
    let (changed, forgot, _, _) = c.call.ensures.changed in
    machine-after-call old new c.in-Call.x was c.holds-in-Call.ensures c.call.ensures.state c.call.ensures.moments changed forgot

pub returns-in-Call : goal.returns-in-Call
returns-in-Call g c =
    let old = snapshot_of c.self.inside.manager (g.T.Translations.entries c.self.inside.cache) c.self.inside.news in
    let new = snapshot_of c.call.new.self (g.T.Translations.entries c.call.new.cache) c.call.new.news in
    let was : IsMachine old = record { managed = c.holds.ensures; walks = c.self.invariant.0; rest = c.self.invariant.1 } in
    let (changed, forgot, news, silent) = c.call.ensures.changed in
    record {
      done = subst (λ (op : Op). IsDone c.args.self.now op c.call.new.outcome new) (sym c.in-Call.is)
          (subst (λ (seen : Snapshot). IsDone seen (Call c.in-Call.x) c.call.new.outcome new) c.self.view_is
          (called old new c.in-Call.x was c.holds-in-Call.ensures c.call.ensures.state c.call.ensures.moments changed forgot c.call.new.outcome c.call.ensures.outcome
          (λ its i. snapshot_of (c.call.ensures.refused its i) (c.call.ensures.unchanged its i) (c.call.ensures.untold its i))
          c.call.ensures.unowned news silent c.call.ensures.few));
    }
