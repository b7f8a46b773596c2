-- SPDX-License-Identifier: MIT OR Apache-2.0
use Rattle.std.proofs.Common.{◌∙◌}
use Rattle.ffa_model.specs.declared.call.Call.TheVariants.{MemRelinquish}
use Rattle.ffa_model.specs.Calls.{first_refusal}
use Rattle.ffa_model.specs.MemoryReturn.{memory_relinquish}
use Rattle.ffa_model.specs.State.{State}
use Rattle.ffa_spmc.specs.Lent.{lent_parts}
use Rattle.ffa_spmc.proofs.Fills.{caller-is}
use Rattle.ffa_reasons.specs.Explanation.{with_told}
use Rattle.ffa_reasons.proofs.Told.{relinquish-told, seen-in}
use Rattle.ffa_reasons.proofs.reasons.Reasons.why_relinquish.Goals as goal

pub returns : goal.returns
returns g c =
    let x = lent_parts g.M.PhysMem.ram c.self.inside.parts in
    let view = c.self.invariant.state ∙ c.self.view_is in
    seen-in x c.args.self.now view (λ (s : State). with_told s MemRelinquish (first_refusal (memory_relinquish s).guards)) c.why_relinquish.result
    (c.why_relinquish.ensures ∙ relinquish-told x c.self.invariant.managed c.runner-runner.result.0 c.runner-runner.ensures.runner)

pub why_relinquish-requires : goal.why_relinquish-requires
why_relinquish-requires g c =
    let x = lent_parts g.M.PhysMem.ram c.self.inside.parts in
    record { tx = (caller-is x c.self.invariant.managed c.runner-runner.result.0 c.runner-runner.ensures.runner).inside }
