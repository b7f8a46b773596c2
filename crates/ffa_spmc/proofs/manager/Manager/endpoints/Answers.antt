-- SPDX-License-Identifier: MIT OR Apache-2.0
use Rattle.std.proofs.Common.{◌∙◌, ap, length, sym}
use Rattle.ffa_spmc.specs.Managed.{Managed}
use Rattle.ffa_spmc.proofs.Held.{parties_are}
use Rattle.ffa_spmc.proofs.Inside.{parts_of}
use Rattle.ffa_spmc.proofs.manager.Manager.endpoints.Goals as goal

pub returns-clause-number : goal.returns-clause-number
returns-clause-number g c =
    let x = parts_of g.M.PhysMem.ram c.self.inside in
    c.len.ensures.value ∙ sym (parties_are x)
    ∙ ap (λ (seen : Managed). length seen.state.parties) c.self.view_is
