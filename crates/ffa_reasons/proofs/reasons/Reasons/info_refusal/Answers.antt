-- SPDX-License-Identifier: MIT OR Apache-2.0
use Rattle.std.proofs.Common.{◌∙◌, ap, sym}
use Rattle.ffa_model.specs.Calls.{first_refusal}
use Rattle.ffa_model.specs.Setup.{info_guards, needs_buffers, uuid_bytes}
use Rattle.ffa_model.specs.State.{State}
use Rattle.ffa_spmc.specs.Lent.{lent_parts}
use Rattle.ffa_spmc.proofs.Information.{decided}
use Rattle.ffa_spmc.proofs.Versions.{ffa-is}
use Rattle.ffa_reasons.proofs.Checked.{info-checked}
use Rattle.ffa_reasons.proofs.reasons.Reasons.info_refusal.Goals as goal

pub returns : goal.returns
returns g c =
    let x = lent_parts g.M.PhysMem.ram c.self.inside.parts in
    let view = c.self.invariant.state ∙ c.self.view_is in
    let ffa = c.ffa.ensures ∙ sym (ap (λ (s : State). s.ffa) view) ∙ ffa-is x in
    c.info_refusal.ensures
    ∙ (λ i. decided (needs_buffers (ffa i)) (c.is_recognized-is_recognized.ensures i) (c.is_count_alone.ensures i) (c.has.ensures i) (c.is_full.ensures i))
    ∙ info-checked x c.self.invariant.managed c.runner-runner.result.0 c.runner-runner.ensures.runner (uuid_bytes c.args.uuid) c.args.flags
    ∙ ap (λ (s : State). first_refusal (info_guards s (uuid_bytes c.args.uuid) c.args.flags)) view
