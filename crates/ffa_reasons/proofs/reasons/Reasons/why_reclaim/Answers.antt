-- SPDX-License-Identifier: MIT OR Apache-2.0
use Rattle.std.proofs.Common.{◌∙◌, None, Some, ap}
use Rattle.ffa_mend.specs.Explained.{explained}
use Rattle.ffa_mend.specs.Mend.{mend_return}
use Rattle.ffa_model.specs.declared.call.Call.TheVariants.{MemReclaim}
use Rattle.ffa_model.specs.Access.{ownership_of}
use Rattle.ffa_model.specs.About.{failing_reclaim}
use Rattle.ffa_model.specs.State.{State, transaction_of}
use Rattle.ffa_spmc.specs.Lent.{lent_parts}
use Rattle.ffa_reasons.specs.Explanation.{with_told}
use Rattle.ffa_reasons.proofs.Told.{reclaim-told, seen-in}
use Rattle.ffa_reasons.proofs.reasons.Reasons.why_reclaim.Goals as goal

pub returns : goal.returns
returns g c =
    let x = lent_parts g.M.PhysMem.ram c.self.inside.parts in
    let view = c.self.invariant.state ∙ c.self.view_is in
    let refusal = c.in_ok-refusal.refusal in
    ap (λ told. Some (refusal, told)) (seen-in x c.args.self.now view
    (λ (s : State). explained None (failing_reclaim (ownership_of s) (transaction_of s c.args.handle.0) refusal) (mend_return s.runner refusal (transaction_of s c.args.handle.0)))
    c.explain_reclaim-told.result
    (c.explain_reclaim-told.ensures ∙ reclaim-told x c.self.invariant.managed c.runner-runner.result.0 c.runner-runner.ensures.runner refusal c.args.handle.0))
    ∙ ap (with_told c.args.self.now (MemReclaim c.args.handle c.args.flags)) c.in_ok-refusal.ensures
