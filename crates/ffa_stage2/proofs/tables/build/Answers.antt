-- SPDX-License-Identifier: MIT OR Apache-2.0
use Rattle.std.proofs.Common.{arith, subst, sym}
use Rattle.arrayvec.specs.ArrayVec.{array_vec_len}
use Rattle.ffa_stage2.specs.Layout.{IsBuiltFor, KeepsRestFor, layout_right}
use Rattle.ffa_stage2.specs.Words.{rights_until}
use Rattle.ffa_stage2.proofs.Changes.{blocks-built}
use Rattle.ffa_stage2.proofs.Rest.{rest-settled}
use Rattle.ffa_stage2.proofs.Rights.{built-same, rights_until-all}
use Rattle.ffa_stage2.proofs.Walks.{walk-built}
use Rattle.ffa_stage2.proofs.tables.build.Goals as goal

pub returns-clause-built : goal.returns-clause-built
returns-clause-built g c =
    let l = c.args.layout.now in
    subst (λ ram. IsBuiltFor l ram (layout_right l)) (sym c.settle_all.ensures.ram)
    (built-same (g.M.PhysMem.ram c.loop-index.memory) (array_vec_len l.regions) l.tables.0 l.blocks (rights_until (layout_right l) c.loop-index.index 0) (layout_right l)
    c.loop-index.invariant.built
    (λ e p he _. rights_until-all (layout_right l) c.loop-index.index e p (omega (arith, he))))

pub returns-clause-rest : goal.returns-clause-rest
returns-clause-rest g c =
    subst (λ ram. KeepsRestFor c.args.layout.now (g.M.PhysMem.ram c.args.memory.now) ram) (sym c.settle_all.ensures.ram) c.loop-index.invariant.rest

pub returns-clause-at_rest : goal.returns-clause-at_rest
returns-clause-at_rest g c some =
    let l = c.args.layout.now in
    rest-settled (g.M.PhysMem.ram c.settle_all.new.memory) (array_vec_len l.regions) l.tables.0 l.blocks (layout_right l) (g.M.PhysMem.past c.settle_all.new.memory) (returns-clause-built g c) some (g.met.M.PhysMem.in_turn c.settle_all.new.memory) c.settle_all.ensures.settled

pub returns-clause-walks : goal.returns-clause-walks
returns-clause-walks g c e a he ha = walk-built (g.M.PhysMem.ram c.settle_all.new.memory) _ _ _ _ e a (returns-clause-built g c) he ha

pub returns-clause-blocks : goal.returns-clause-blocks
returns-clause-blocks g c = blocks-built (g.M.PhysMem.ram c.settle_all.new.memory) _ _ _ _ (returns-clause-built g c)
