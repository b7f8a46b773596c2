-- SPDX-License-Identifier: MIT OR Apache-2.0
use Rattle.std.proofs.Common.{◌∙◌, ap}
use Rattle.ffa_model.specs.State.{State}
use Rattle.ffa_spmc.specs.Lent.{lent_parts}
use Rattle.ffa_model.specs.RunStates.{direct_request}
use Rattle.ffa_reasons.proofs.Checked.{seen-refusal}
use Rattle.std.specs.Prelude.{List}
use Rattle.ffa_model.specs.Calls.{first_refusal}
use Rattle.ffa_model.specs.RunStates.{request_guards}
use Rattle.ffa_model.specs.State.{Party}
use Rattle.ffa_spmc.proofs.Held.{parties-listed}
use Rattle.ffa_reasons.proofs.reasons.Reasons.direct_request_refusal.Goals as goal

pub returns : goal.returns
returns g c =
    let x = lent_parts g.M.PhysMem.ram c.self.inside.parts in
    let view = c.self.invariant.state ∙ c.self.view_is in
    seen-refusal x c.args.self.now view (λ (s : State). direct_request s c.args.message.now) c.err.result
    (c.err.ensures.value ∙ c.check_direct_req.ensures.refusal ∙ ap (λ (parties : List Party). first_refusal (request_guards parties x.kept.chain c.args.message.now)) (parties-listed x))
