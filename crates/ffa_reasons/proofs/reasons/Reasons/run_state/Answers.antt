-- SPDX-License-Identifier: MIT OR Apache-2.0
use Rattle.std.proofs.Common.{◌∙◌, ℕ, length, ap, sym}
use Rattle.ffa_model.specs.RunStates.{schedule_of}
use Rattle.ffa_model.specs.State.{State}
use Rattle.ffa_playable.specs.Standing.{run_state}
use Rattle.ffa_spmc.specs.Lent.{lent_parts}
use Rattle.ffa_reasons.proofs.Told.{seen-in}
use Rattle.ffa_reasons.proofs.reasons.Reasons.run_state.Goals as goal

pub returns : goal.returns
returns g c =
    let x = lent_parts g.M.PhysMem.ram c.self.inside.parts in
    let view = c.self.invariant.state ∙ c.self.view_is in
    seen-in x c.args.self.now view (λ (s : State). run_state (length s.parties) (schedule_of s) c.args.endpoint.0) c.run_state.result
    (c.run_state.ensures
    ∙ ap (λ (n : ℕ). run_state n x.kept.chain c.args.endpoint.0)
    (c.endpoints-endpoints.ensures.number ∙ sym (ap (λ (s : State). length s.parties) c.self.invariant.state)))
