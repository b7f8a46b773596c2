-- SPDX-License-Identifier: MIT OR Apache-2.0
use Rattle.std.proofs.Common.{◌∙◌, None, Some, ap}
use Rattle.ffa_mend.specs.Explained.{explained}
use Rattle.ffa_mend.specs.Mend.{mend_message}
use Rattle.ffa_model.specs.declared.call.Call.TheVariants.{MsgSend2}
use Rattle.ffa_model.specs.AboutContents.{about_message}
use Rattle.ffa_model.specs.Messages.{header_in, tx_bytes}
use Rattle.ffa_model.specs.State.{State, buffers_of}
use Rattle.ffa_spmc.specs.Lent.{lent_parts}
use Rattle.ffa_spmc.proofs.Sends.{buffers-in-ram}
use Rattle.ffa_reasons.specs.Explanation.{with_told}
use Rattle.ffa_reasons.proofs.Told.{message-told, seen-in}
use Rattle.ffa_reasons.proofs.reasons.Reasons.why_message.Goals as goal

pub returns : goal.returns
returns g c =
    let x = lent_parts g.M.PhysMem.ram c.self.inside.parts in
    let view = c.self.invariant.state ∙ c.self.view_is in
    let refusal = c.in_ok-refusal.refusal in
    ap (λ told. Some (refusal, told)) (seen-in x c.args.self.now view
    (λ (s : State). explained (about_message (buffers_of s s.runner) (header_in (tx_bytes s s.runner)) refusal) None (mend_message (buffers_of s s.runner) (header_in (tx_bytes s s.runner)) refusal))
    c.explain_message-told.result
    (c.explain_message-told.ensures ∙ message-told x c.self.invariant.managed c.runner-runner.result.0 c.runner-runner.ensures.runner refusal))
    ∙ ap (with_told c.args.self.now MsgSend2) c.in_ok-refusal.ensures

pub explain_message-told-requires : goal.explain_message-told-requires
explain_message-told-requires g c =
    let x = lent_parts g.M.PhysMem.ram c.self.inside.parts in
    buffers-in-ram x c.self.invariant.managed
