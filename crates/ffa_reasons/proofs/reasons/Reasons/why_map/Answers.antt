-- SPDX-License-Identifier: MIT OR Apache-2.0
use Rattle.std.proofs.Common.{◌∙◌, None, Some, ap}
use Rattle.ffa_mend.specs.Explained.{explained}
use Rattle.ffa_mend.specs.Mend.{mend_map}
use Rattle.ffa_model.specs.declared.call.Call.TheVariants.{RxtxMap}
use Rattle.ffa_model.specs.Access.{ownership_of}
use Rattle.ffa_model.specs.About.{failing_map}
use Rattle.ffa_model.specs.State.{State}
use Rattle.ffa_spmc.specs.Lent.{lent_parts}
use Rattle.ffa_reasons.specs.Explanation.{with_told}
use Rattle.ffa_reasons.proofs.Told.{map-failing, map-mended, seen-in}
use Rattle.ffa_reasons.proofs.reasons.Reasons.why_map.Goals as goal

pub returns : goal.returns
returns g c =
    let x = lent_parts g.M.PhysMem.ram c.self.inside.parts in
    let view = c.self.invariant.state ∙ c.self.view_is in
    let refusal = c.in_ok-refusal.refusal in
    let page = c.failing_map.ensures ∙ map-failing x c.self.invariant.managed c.runner-runner.result.0 c.runner-runner.ensures.runner refusal c.args.tx c.args.rx c.args.pages in
    let mend = c.mend_map.ensures ∙ map-mended x c.self.invariant.managed refusal c.args.tx c.args.rx c.args.pages in
    seen-in x c.args.self.now view
    (λ (s : State). Some (refusal, explained None (failing_map s.runner (ownership_of s) c.args.tx c.args.rx c.args.pages refusal) (mend_map (ownership_of s) c.args.tx c.args.rx c.args.pages refusal)))
    _ (λ i. Some (refusal, explained None (page i) (mend i)))
    ∙ ap (with_told c.args.self.now (RxtxMap c.args.tx c.args.rx c.args.pages)) c.in_ok-refusal.ensures
