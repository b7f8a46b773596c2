-- SPDX-License-Identifier: MIT OR Apache-2.0
use Rattle.ffa_spmc.proofs.Boots.{filled-booted, filled-ready}
use Rattle.ffa_spmc.proofs.Clusters.{boot-here-held}
use Rattle.ffa_spmc.proofs.machine.Machine.boot_in.Goals as goal

pub first-requires-clause-ram : goal.first-requires-clause-ram
first-requires-clause-ram g c = filled-ready c.args.fill c.args.manifest.now (g.M.PhysMem.ram c.args.ram) (g.M.PhysMem.ram c.prepare.new.ram) c.prepare.ensures.filled

pub returns-clause-booted : goal.returns-clause-booted
returns-clause-booted g c =
    filled-booted c.args.fill c.args.manifest.now (g.M.PhysMem.ram c.args.ram) (g.M.PhysMem.ram c.prepare.new.ram) c.first.result.state c.first.result.ram
    c.prepare.ensures.filled c.first.ensures.booted

pub returns-clause-here : goal.returns-clause-here
returns-clause-here g c =
    boot-here-held c.args.manifest.now (g.M.PhysMem.ram c.prepare.new.ram) c.first.result.state c.first.result.ram c.first.ensures.booted
