-- SPDX-License-Identifier: MIT OR Apache-2.0
use Rattle.std.proofs.Common.{◌∙◌, ap}
use Rattle.ffa_model.specs.Processors.{turned}
use Rattle.ffa_spmc.specs.Clustered.{Clustered}
use Rattle.ffa_spmc.specs.Snapshot.{Snapshot}
use Rattle.ffa_spmc.proofs.Clusters.{goes-next, kept-next, placed-next}
use Rattle.ffa_spmc.proofs.cluster.Cluster.select.Goals as goal

pub switch-requires-clause-goes : goal.switch-requires-clause-goes
switch-requires-clause-goes g c =
    goes-next c.self.inside.machine c.self.inside.current c.args.processor c.self.inside.runners.items c.self.invariant.0 c.holds.ensures.managed.sound c.requires c.if-processor-self.false
    c.deref.result.now c.deref.ensures.0

pub invariant_of-self : goal.invariant_of-self
invariant_of-self g c = (
  placed-next c.self.inside.machine c.self.inside.current c.args.processor c.self.inside.runners.items c.self.invariant.0 c.holds.ensures.managed.sound c.requires c.if-processor-self.false
      c.deref.result.now c.deref.ensures.0 c.runner-runner.result c.runner-runner.ensures c.left_status.result c.left_status.ensures c.switch.new.self c.switch.ensures c.note.new.runners.items c.note.ensures,
  ap (λ (x : Snapshot). x.past.site.copies.beneath) c.switch.ensures ∙ c.self.invariant.1,
)

pub returns-clause-processors : goal.returns-clause-processors
returns-clause-processors g c =
    kept-next c.self.inside.machine c.self.inside.current c.args.processor c.self.inside.runners.items c.self.invariant.0 c.holds.ensures.managed.sound c.requires c.if-processor-self.false
    c.deref.result.now c.deref.ensures.0 c.runner-runner.result c.runner-runner.ensures c.left_status.result c.left_status.ensures c.switch.new.self c.switch.ensures c.note.new.runners.items c.note.ensures
    ∙ ap (λ (seen : Clustered). turned seen.processors c.args.processor seen.machine.state) c.self.view_is
