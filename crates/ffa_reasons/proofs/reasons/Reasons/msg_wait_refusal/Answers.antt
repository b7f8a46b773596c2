-- SPDX-License-Identifier: MIT OR Apache-2.0
use Rattle.std.proofs.Common.{◌∙◌}
use Rattle.ffa_model.specs.State.{State}
use Rattle.ffa_spmc.specs.Lent.{lent_parts}
use Rattle.ffa_model.specs.RunStates.{msg_wait}
use Rattle.ffa_reasons.proofs.Checked.{seen-refusal}
use Rattle.ffa_reasons.proofs.reasons.Reasons.msg_wait_refusal.Goals as goal

pub returns : goal.returns
returns g c =
    let x = lent_parts g.M.PhysMem.ram c.self.inside.parts in
    let view = c.self.invariant.state ∙ c.self.view_is in
    seen-refusal x c.args.self.now view (λ (s : State). msg_wait s 0) c.err.result
    (c.err.ensures.value ∙ c.check_wait.ensures.refusal)
