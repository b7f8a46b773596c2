-- SPDX-License-Identifier: MIT OR Apache-2.0
use Rattle.std.proofs.Common.{subst}
use Rattle.ffa_spmc.specs.Machines.{IsMachine}
use Rattle.ffa_spmc.proofs.machine.Machine.holds.Goals as goal

pub returns : goal.returns
returns g c = subst IsMachine c.self.view_is (record { managed = c.holds.ensures; walks = c.self.invariant.0; rest = c.self.invariant.1 })
