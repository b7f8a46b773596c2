-- SPDX-License-Identifier: MIT OR Apache-2.0
use Rattle.std.proofs.Common.{◌∙◌, ap, subst}
use Rattle.ffa_model.specs.declared.schedule.Status.TheVariants.{Running}
use Rattle.ffa_model.specs.Identifiers.{place}
use Rattle.ffa_model.specs.RunStates.{Schedule, switched}
use Rattle.ffa_schedule.specs.Kept.{IsKept}
use Rattle.ffa_schedule.proofs.Steps.{kept-going, schedule, written}
use Rattle.ffa_schedule.proofs.chain.Chain.switch.Goals as goal

pub invariant_of-self : goal.invariant_of-self
invariant_of-self c =
    kept-going c.args.self.now (schedule c.args.endpoint.0 c.set_status-2.new.statuses.items c.self.inside.works.items) c.args.status c.args.endpoint.0
    (subst IsKept c.self.view_is c.self.invariant) c.requires.stops c.requires.goes
    (written c.args.endpoint.0 (place c.self.inside.runner.0) (place c.args.endpoint.0) c.args.status Running c.self.inside.statuses.items c.set_status.new.statuses.items c.set_status-2.new.statuses.items c.self.inside.works.items c.set_status.ensures c.set_status-2.ensures
    ∙ ap (λ (now : Schedule). switched now c.args.status c.args.endpoint.0) c.self.view_is)

pub returns-clause-sound : goal.returns-clause-sound
returns-clause-sound c = (invariant_of-self c).sound
