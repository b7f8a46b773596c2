-- SPDX-License-Identifier: MIT OR Apache-2.0
use Rattle.std.proofs.Common.{◌≡◌}
use Rattle.arrayvec.specs.ArrayVec.{array_vec_len}
use Rattle.ffa_stage2.specs.Layout.{layout_right}
use Rattle.ffa_stage2.specs.Tables.{IsBuilt, KeepsRest}
use Rattle.ffa_stage2.specs.Words.{rights_until}
use Rattle.ffa_stage2.proofs.tables.build.Given as goal

-- the endpoints so far
abbrev pub invariant-loop-index : goal.invariant-loop-index
invariant-loop-index g l = record {
  built : IsBuilt (g.M.PhysMem.ram l.memory) (array_vec_len l.layout.regions) l.layout.tables.0 l.layout.blocks (rights_until (layout_right l.layout) l.index 0);
  rest : KeepsRest (g.M.PhysMem.ram l.fn.memory) (g.M.PhysMem.ram l.memory) (array_vec_len l.layout.regions) l.layout.tables.0 l.layout.blocks;
  site : (g.M.PhysMem.past l.memory).site ≡ (g.M.PhysMem.past l.fn.memory).site;
}
