-- SPDX-License-Identifier: MIT OR Apache-2.0
use Rattle.std.proofs.Common.{◌≡◌}
use Rattle.ffa_stage2.proofs.Links.{IsLinking}
use Rattle.arrayvec.specs.ArrayVec.{array_vec_len}
use Rattle.ffa_stage2.proofs.tables.link.Given as goal

-- the blocks so far
abbrev pub invariant-loop-block : goal.invariant-loop-block
invariant-loop-block g l = record {
  linking : IsLinking (g.M.PhysMem.ram l.fn.memory) (g.M.PhysMem.ram l.memory) (array_vec_len l.layout.regions) l.layout.tables.0 l.layout.blocks l.layout.base.0 l.index l.block;
  site : (g.M.PhysMem.past l.memory).site ≡ (g.M.PhysMem.past l.fn.memory).site;
}
