-- SPDX-License-Identifier: MIT OR Apache-2.0
use Rattle.std.proofs.Common.{◌∙◌, ap, refl}
use Rattle.ffa_model.specs.State.{State, version_of}
use Rattle.ffa_physmem.specs.Unrecorded.{no_site, unrecorded}
use Rattle.ffa_spmc.specs.Lent.{lent_parts}
use Rattle.ffa_spmc.proofs.Information.{version-seen}
use Rattle.ffa_spmc.proofs.Replied.{managed_of}
use Rattle.ffa_reasons.proofs.reasons.Reasons.version.Goals as goal

pub returns : goal.returns
returns g c =
    let x = lent_parts g.M.PhysMem.ram c.self.inside.parts in
    let view = c.self.invariant.state ∙ c.self.view_is in
    c.of_endpoint.ensures
    ∙ version-seen x (managed_of x (unrecorded no_site)) refl c.runner.result.0 c.runner.ensures.runner
    ∙ ap (λ (s : State). version_of s s.runner) view
