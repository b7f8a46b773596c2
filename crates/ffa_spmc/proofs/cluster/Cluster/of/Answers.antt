-- SPDX-License-Identifier: MIT OR Apache-2.0
use Rattle.std.proofs.lemmas.Grind.{common_steps}
use Rattle.std.proofs.Common.{◌≡◌, arith, subst, sym}
use Rattle.ffa_model.specs.declared.limits.TheConstants.{MOST_PROCESSORS}
use Rattle.ffa_model.specs.Processors.{ArePlaced, Processors}
use Rattle.ffa_spmc.proofs.Clusters.{first-kept, first-placed}
use Rattle.ffa_spmc.proofs.cluster.Cluster.of.Goals as goal

pub loop-processor-preserved : goal.loop-processor-preserved
loop-processor-preserved g c = grind (arith, common_steps)

pub invariant_of-result : goal.invariant_of-result
invariant_of-result g c =
    let all : c.loop-processor._processor ≡ MOST_PROCESSORS = omega (arith, c.loop-processor-test.false, c.loop-processor.auto._processor-end) in (
      subst (λ (processors : Processors). ArePlaced processors c.args.machine.state) (sym (first-kept c.loop-processor.runners.items c.loop-processor._processor all c.loop-processor.invariant.items))
          (first-placed c.args.machine.state c.requires.here),
      c.requires.free,
    )

pub returns-clause-processors : goal.returns-clause-processors
returns-clause-processors g c =
    let all : c.loop-processor._processor ≡ MOST_PROCESSORS = omega (arith, c.loop-processor-test.false, c.loop-processor.auto._processor-end) in
    first-kept c.loop-processor.runners.items c.loop-processor._processor all c.loop-processor.invariant.items
