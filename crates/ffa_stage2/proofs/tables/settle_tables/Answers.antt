-- SPDX-License-Identifier: MIT OR Apache-2.0
use Rattle.std.proofs.Common.{subst, sym}
use Rattle.arrayvec.specs.ArrayVec.{array_vec_len}
use Rattle.ffa_stage2.specs.Layout.{IsBuiltFor}
use Rattle.ffa_stage2.proofs.Rest.{rest-settled}
use Rattle.ffa_stage2.proofs.tables.settle_tables.Goals as goal

pub returns-clause-at_rest : goal.returns-clause-at_rest
returns-clause-at_rest g c some =
    let l = c.args.layout.now in
    let (access, built) = c.requires in
    rest-settled (g.M.PhysMem.ram c.settle_all.new.memory) (array_vec_len l.regions) l.tables.0 l.blocks access (g.M.PhysMem.past c.settle_all.new.memory)
    (subst (λ ram. IsBuiltFor l ram access) (sym c.settle_all.ensures.ram) built)
    some (g.met.M.PhysMem.in_turn c.settle_all.new.memory) c.settle_all.ensures.settled
