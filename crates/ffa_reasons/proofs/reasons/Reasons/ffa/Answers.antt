-- SPDX-License-Identifier: MIT OR Apache-2.0
use Rattle.std.proofs.Common.{◌∙◌, ap, sym}
use Rattle.ffa_model.specs.State.{State}
use Rattle.ffa_spmc.specs.Lent.{lent_parts}
use Rattle.ffa_spmc.proofs.Versions.{ffa-is}
use Rattle.ffa_reasons.proofs.reasons.Reasons.ffa.Goals as goal

pub returns : goal.returns
returns g c =
    let x = lent_parts g.M.PhysMem.ram c.self.inside.parts in
    sym (ffa-is x) ∙ ap (λ (s : State). s.ffa) (c.self.invariant.state ∙ c.self.view_is)
