-- SPDX-License-Identifier: MIT OR Apache-2.0
use Rattle.std.proofs.Common.{◌∙◌, length, ap, sym}
use Rattle.ffa_spmc.specs.Managed.{Managed}
use Rattle.ffa_spmc.proofs.Held.{parties_are}
use Rattle.ffa_spmc.proofs.Inside.{parts_of}
use Rattle.ffa_spmc.proofs.manager.Manager.manifest.Goals as goal

pub returns-clause-endpoints : goal.returns-clause-endpoints
returns-clause-endpoints g c =
    let x = parts_of g.M.PhysMem.ram c.self.inside in
    sym (parties_are x) ∙ ap (λ (m : Managed). length m.state.parties) c.self.view_is
