-- SPDX-License-Identifier: MIT OR Apache-2.0
use Rattle.std.proofs.Common.{◌∙◌, None, ap, set, subst}
use Rattle.ffa_model.specs.declared.schedule.Status.TheVariants.{Running, Waiting}
use Rattle.ffa_model.specs.Identifiers.{place}
use Rattle.ffa_model.specs.RunStates.{Schedule, finished}
use Rattle.ffa_schedule.specs.Kept.{IsKept}
use Rattle.ffa_schedule.proofs.Steps.{kept-done, schedule, worked, written}
use Rattle.ffa_schedule.proofs.chain.Chain.finish.Goals as goal

pub invariant_of-self : goal.invariant_of-self
invariant_of-self c =
    kept-done c.args.self.now (schedule c.args.by.0 c.set_status-2.new.statuses.items c.set_work.new.works.items) c.args.by.0
    (subst IsKept c.self.view_is c.self.invariant) c.requires
    (worked c.args.by.0 (place c.self.inside.runner.0) c.set_status-2.new.statuses.items None c.self.inside.works.items c.set_work.new.works.items c.set_work.ensures
    ∙ written c.args.by.0 (place c.self.inside.runner.0) (place c.args.by.0) Waiting Running c.self.inside.statuses.items c.set_status.new.statuses.items c.set_status-2.new.statuses.items (set c.self.inside.works.items (place c.self.inside.runner.0) None) c.set_status.ensures c.set_status-2.ensures
    ∙ ap (λ (now : Schedule). finished now c.args.by.0) c.self.view_is)

pub returns-clause-sound : goal.returns-clause-sound
returns-clause-sound c = (invariant_of-self c).sound
