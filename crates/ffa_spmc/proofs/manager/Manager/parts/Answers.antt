-- SPDX-License-Identifier: MIT OR Apache-2.0
use Rattle.std.proofs.Common.{ap}
use Rattle.ffa_spmc.specs.Managed.{Managed}
use Rattle.ffa_spmc.proofs.manager.Manager.parts.Goals as goal

pub returns : goal.returns
returns g c = record { managed = c.self.invariant; state = ap (λ (seen : Managed). seen.state) c.self.view_is }
