-- SPDX-License-Identifier: MIT OR Apache-2.0
use Rattle.std.proofs.Common.{◌∙◌}
use Rattle.ffa_mend.specs.Mend.{mend_pending}
use Rattle.ffa_model.specs.Notifications.{notifications_of}
use Rattle.ffa_model.specs.State.{State}
use Rattle.ffa_reasons.proofs.Told.{pending-mended, seen-in}
use Rattle.ffa_spmc.proofs.Notified.{runner-notified}
use Rattle.ffa_spmc.specs.Lent.{lent_parts}
use Rattle.ffa_reasons.proofs.reasons.Reasons.mend_pending.Goals as goal

pub returns : goal.returns
returns g c =
    let x = lent_parts g.M.PhysMem.ram c.self.inside.parts in
    let view = c.self.invariant.state ∙ c.self.view_is in
    seen-in x c.args.self.now view (λ (s : State). mend_pending (notifications_of s) s.runner) c.mend_pending.result
    (c.mend_pending.ensures ∙ pending-mended x c.self.invariant.managed c.runner-runner.result.0 c.runner-runner.ensures.runner)

pub mend_pending-requires : goal.mend_pending-requires
mend_pending-requires g c =
    let x = lent_parts g.M.PhysMem.ram c.self.inside.parts in
    runner-notified x c.self.invariant.managed c.runner-runner.result.0 c.runner-runner.ensures.runner
