-- SPDX-License-Identifier: MIT OR Apache-2.0
use Rattle.std.proofs.Common.{subst}
use Rattle.ffa_model.specs.Agreement.{Agrees}
use Rattle.ffa_spmc.specs.Managed.{Managed}
use Rattle.ffa_spmc.proofs.Agreements.{agrees}
use Rattle.ffa_spmc.proofs.Inside.{parts_of}
use Rattle.ffa_spmc.proofs.manager.Manager.ram.Goals as goal

pub returns-clause-agrees : goal.returns-clause-agrees
returns-clause-agrees g c =
    let x = parts_of g.M.PhysMem.ram c.self.inside in
    subst (λ (seen : Managed). Agrees x.ram seen.state) c.self.view_is
    (agrees x c.self.invariant)
