-- SPDX-License-Identifier: MIT OR Apache-2.0
use Rattle.std.proofs.Common.{◌∙◌}
use Rattle.ffa_model.specs.State.{State}
use Rattle.ffa_spmc.specs.Lent.{lent_parts}
use Rattle.ffa_model.specs.Setup.{features}
use Rattle.ffa_reasons.proofs.Checked.{seen-refusal, features-checked}
use Rattle.ffa_reasons.proofs.reasons.Reasons.features_refusal.Goals as goal

pub returns : goal.returns
returns g c =
    let x = lent_parts g.M.PhysMem.ram c.self.inside.parts in
    let view = c.self.invariant.state ∙ c.self.view_is in
    seen-refusal x c.args.self.now view (λ (s : State). features s c.args.function) c.err.result
    (c.err.ensures.value ∙ c.check_features.ensures ∙ features-checked x c.self.invariant.managed c.runner-runner.result.0 c.runner-runner.ensures.runner c.args.function)
