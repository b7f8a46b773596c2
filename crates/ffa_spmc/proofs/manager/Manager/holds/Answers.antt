-- SPDX-License-Identifier: MIT OR Apache-2.0
use Rattle.std.proofs.Common.{subst}
use Rattle.ffa_spmc.specs.Machines.{IsManaged}
use Rattle.ffa_spmc.proofs.Agreements.{agrees}
use Rattle.ffa_spmc.proofs.Inside.{parts_of}
use Rattle.ffa_spmc.proofs.Pools.{senders-apart}
use Rattle.ffa_spmc.proofs.Unowned.{no-tables}
use Rattle.ffa_spmc.proofs.manager.Manager.holds.Goals as goal

pub returns : goal.returns
returns g c =
    let x = parts_of g.M.PhysMem.ram c.self.inside in
    subst IsManaged c.self.view_is (record {
      agrees = agrees x c.self.invariant;
      sound = c.self.invariant.sound;
      apart = senders-apart x c.self.invariant;
      turn = g.met.M.PhysMem.in_turn c.self.inside.ram;
      tables = no-tables x c.self.invariant;
    })
