-- SPDX-License-Identifier: MIT OR Apache-2.0
use Rattle.std.proofs.Common.{◌∙◌, ap, subst, sym}
use Rattle.ffa_model.specs.SoundState.{IsSoundState}
use Rattle.ffa_spmc.specs.Clustered.{Clustered}
use Rattle.ffa_spmc.specs.Snapshot.{Snapshot}
use Rattle.ffa_spmc.proofs.Clusters.{kept_as, placed-interrupted}
use Rattle.ffa_spmc.proofs.cluster.Cluster.interrupt.Goals as goal

pub invariant_of-self : goal.invariant_of-self
invariant_of-self g c = (
  placed-interrupted (kept_as c.self.inside.current c.self.inside.runners.items) c.self.inside.machine.state c.interrupt.new.self.state
      (subst (λ (seen : Clustered). IsSoundState seen.machine.state) (sym c.self.view_is) c.holds.ensures.sound) c.self.invariant.0
      (ap (λ (x : Snapshot). x.state) c.interrupt.ensures.machine),
  ap (λ (x : Snapshot). x.past.site.copies.beneath) c.interrupt.ensures.machine ∙ c.self.invariant.1,
)
