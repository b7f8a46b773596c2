-- SPDX-License-Identifier: MIT OR Apache-2.0
use Rattle.std.proofs.Common.{◌∙◌, Some, ap, set, subst}
use Rattle.ffa_model.specs.declared.schedule.Status.TheVariants.{Running, Blocked}
use Rattle.ffa_model.specs.Identifiers.{place}
use Rattle.ffa_model.specs.RunStates.{Schedule, switched, with_work}
use Rattle.ffa_schedule.specs.Kept.{IsKept}
use Rattle.ffa_schedule.proofs.Steps.{kept-begun, schedule, worked, written}
use Rattle.ffa_schedule.proofs.chain.Chain.start.Goals as goal

pub invariant_of-self : goal.invariant_of-self
invariant_of-self c =
    kept-begun c.args.self.now (schedule c.args.partition.0 c.set_status-2.new.statuses.items c.set_work.new.works.items) c.args.partition.0 c.args.work
    (subst IsKept c.self.view_is c.self.invariant) c.requires.partition c.requires.waiting c.requires.origin
    (worked c.args.partition.0 (place c.args.partition.0) c.set_status-2.new.statuses.items (Some c.args.work) c.self.inside.works.items c.set_work.new.works.items c.set_work.ensures
    ∙ written c.args.partition.0 (place c.self.inside.runner.0) (place c.args.partition.0) Blocked Running c.self.inside.statuses.items c.set_status.new.statuses.items c.set_status-2.new.statuses.items (set c.self.inside.works.items (place c.args.partition.0) (Some c.args.work)) c.set_status.ensures c.set_status-2.ensures
    ∙ ap (λ (now : Schedule). with_work (switched now Blocked c.args.partition.0) c.args.partition.0 (Some c.args.work)) c.self.view_is)

pub returns-clause-sound : goal.returns-clause-sound
returns-clause-sound c = (invariant_of-self c).sound
