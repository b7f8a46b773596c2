-- SPDX-License-Identifier: MIT OR Apache-2.0
use Rattle.std.proofs.Common.{subst}
use Rattle.ffa_spmc.specs.Lent.{AreParts, lent_parts}
use Rattle.ffa_spmc.specs.Snapshot.{Snapshot}
use Rattle.ffa_spmc.proofs.machine.Machine.parts.Goals as goal

pub returns : goal.returns
returns g c = subst (λ (seen : Snapshot). AreParts (lent_parts g.M.PhysMem.ram c.parts.result) seen.state) c.self.view_is c.parts.ensures
