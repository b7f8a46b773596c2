-- SPDX-License-Identifier: MIT OR Apache-2.0
use Rattle.std.proofs.Common.{◌∙◌, ap, sym}
use Rattle.ffa_model.specs.State.{State}
use Rattle.ffa_spmc.specs.Lent.{lent_parts}
use Rattle.ffa_model.specs.RunStates.{run_partition}
use Rattle.ffa_reasons.proofs.Checked.{seen-refusal}
use Rattle.std.specs.Prelude.{ℕ}
use Rattle.ffa_model.specs.Calls.{first_refusal}
use Rattle.ffa_model.specs.RunStates.{run_guards}
use Rattle.ffa_spmc.proofs.Held.{counted, parties_are}
use Rattle.ffa_reasons.proofs.reasons.Reasons.run_refusal.Goals as goal

pub returns : goal.returns
returns g c =
    let x = lent_parts g.M.PhysMem.ram c.self.inside.parts in
    let view = c.self.invariant.state ∙ c.self.view_is in
    seen-refusal x c.args.self.now view (λ (s : State). run_partition s c.args.target.0 c.args.context) c.err.result
    (c.err.ensures.value ∙ c.check_run.ensures.refusal ∙ ap (λ (n : ℕ). first_refusal (run_guards n x.kept.chain c.args.target.0 c.args.context)) (counted x c.self.invariant.managed ∙ sym (parties_are x)))
