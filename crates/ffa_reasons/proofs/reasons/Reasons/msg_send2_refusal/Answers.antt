-- SPDX-License-Identifier: MIT OR Apache-2.0
use Rattle.std.proofs.Common.{◌∙◌, ap, sym}
use Rattle.ffa_model.specs.State.{State, version_of}
use Rattle.ffa_spmc.specs.Lent.{lent_parts}
use Rattle.ffa_model.specs.Messages.{msg_send2}
use Rattle.ffa_reasons.proofs.Checked.{seen-refusal, send-checked}
use Rattle.ffa_spmc.proofs.Sends.{buffers-in-ram}
use Rattle.ffa_reasons.proofs.reasons.Reasons.msg_send2_refusal.Goals as goal

pub returns : goal.returns
returns g c =
    let x = lent_parts g.M.PhysMem.ram c.self.inside.parts in
    let view = c.self.invariant.state ∙ c.self.view_is in
    seen-refusal x c.args.self.now view (λ (s : State). msg_send2 s) c.err.result
    (c.err.ensures.value ∙ c.check_send2.ensures.refusal ∙ send-checked x c.self.invariant.managed c.runner-runner.result.0 c.runner-runner.ensures.runner
    c.version-version.result (c.version-version.ensures ∙ sym (ap (λ (s : State). version_of s s.runner) view)))

pub check_send2-requires : goal.check_send2-requires
check_send2-requires g c =
    let x = lent_parts g.M.PhysMem.ram c.self.inside.parts in
    buffers-in-ram x c.self.invariant.managed
