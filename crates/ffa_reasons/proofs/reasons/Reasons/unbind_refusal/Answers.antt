-- SPDX-License-Identifier: MIT OR Apache-2.0
use Rattle.std.proofs.Common.{◌∙◌}
use Rattle.ffa_model.specs.State.{State}
use Rattle.ffa_spmc.specs.Lent.{lent_parts}
use Rattle.ffa_model.specs.Notifications.{notification_unbind}
use Rattle.ffa_reasons.proofs.Checked.{seen-refusal, unbind-checked}
use Rattle.ffa_spmc.proofs.Notified.{runner-notified}
use Rattle.ffa_reasons.proofs.reasons.Reasons.unbind_refusal.Goals as goal

pub returns : goal.returns
returns g c =
    let x = lent_parts g.M.PhysMem.ram c.self.inside.parts in
    let view = c.self.invariant.state ∙ c.self.view_is in
    seen-refusal x c.args.self.now view (λ (s : State). notification_unbind s c.args.bits.now) c.err.result
    (c.err.ensures.value ∙ c.check_unbind.ensures.refusal ∙ unbind-checked x c.self.invariant.managed c.runner-runner.result.0 c.runner-runner.ensures.runner c.args.bits.now)

pub check_unbind-requires : goal.check_unbind-requires
check_unbind-requires g c =
    let x = lent_parts g.M.PhysMem.ram c.self.inside.parts in
    runner-notified x c.self.invariant.managed c.runner-runner.result.0 c.runner-runner.ensures.runner
