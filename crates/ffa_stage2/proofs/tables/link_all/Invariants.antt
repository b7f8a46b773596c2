-- SPDX-License-Identifier: MIT OR Apache-2.0
use Rattle.std.proofs.Common.{◌≡◌}
use Rattle.arrayvec.specs.ArrayVec.{array_vec_len}
use Rattle.ffa_stage2.specs.Tables.{KeepsRest}
use Rattle.ffa_stage2.specs.Words.{TablesAre, linked}
use Rattle.ffa_stage2.proofs.tables.link_all.Given as goal

-- the endpoints so far
abbrev pub invariant-loop-index : goal.invariant-loop-index
invariant-loop-index g l = record {
  tables : TablesAre (g.M.PhysMem.ram l.memory) (array_vec_len l.layout.regions) l.layout.tables.0 l.layout.blocks (linked l.layout.base.0 l.layout.tables.0 l.layout.blocks l.index);
  rest : KeepsRest (g.M.PhysMem.ram l.fn.memory) (g.M.PhysMem.ram l.memory) (array_vec_len l.layout.regions) l.layout.tables.0 l.layout.blocks;
  site : (g.M.PhysMem.past l.memory).site ≡ (g.M.PhysMem.past l.fn.memory).site;
}
