-- SPDX-License-Identifier: MIT OR Apache-2.0
use Rattle.std.proofs.Common.{◌∙◌}
use Rattle.ffa_model.specs.State.{State}
use Rattle.ffa_spmc.specs.Lent.{lent_parts}
use Rattle.ffa_model.specs.Notices.{notification_info_get}
use Rattle.ffa_reasons.proofs.Checked.{seen-refusal, notice-checked}
use Rattle.ffa_reasons.proofs.reasons.Reasons.notice_refusal.Goals as goal

pub returns : goal.returns
returns g c is_wide =
    let x = lent_parts g.M.PhysMem.ram c.self.inside.parts in
    let view = c.self.invariant.state ∙ c.self.view_is in
    seen-refusal x c.args.self.now view (λ (s : State). notification_info_get s is_wide) c.err.result
    (c.err.ensures.value ∙ c.check_info.ensures.refusal ∙ notice-checked x c.self.invariant.managed c.runner-runner.result.0 c.runner-runner.ensures.runner is_wide)
