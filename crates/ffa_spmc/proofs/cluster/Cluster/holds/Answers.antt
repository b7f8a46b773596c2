-- SPDX-License-Identifier: MIT OR Apache-2.0
use Rattle.std.proofs.Common.{subst}
use Rattle.ffa_model.specs.Processors.{ArePlaced}
use Rattle.ffa_physmem.specs.Moments.{HasNoCopies}
use Rattle.ffa_spmc.specs.Cached.{AreWalks}
use Rattle.ffa_spmc.specs.Clustered.{Clustered}
use Rattle.ffa_spmc.proofs.cluster.Cluster.holds.Goals as goal

pub returns-clause-placed : goal.returns-clause-placed
returns-clause-placed g c = subst (λ (seen : Clustered). ArePlaced seen.processors seen.machine.state) c.self.view_is c.self.invariant.0

pub returns-clause-free : goal.returns-clause-free
returns-clause-free g c = subst (λ (seen : Clustered). HasNoCopies seen.machine.past) c.self.view_is c.self.invariant.1

pub returns-clause-walks : goal.returns-clause-walks
returns-clause-walks g c = subst (λ (seen : Clustered). AreWalks seen.machine) c.self.view_is c.holds.ensures.walks
