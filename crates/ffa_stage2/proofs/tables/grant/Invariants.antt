-- SPDX-License-Identifier: MIT OR Apache-2.0
use Rattle.std.proofs.Common.{◌≡◌, ◌-◌, ◌≤◌}
use Rattle.arrayvec.specs.ArrayVec.{array_vec_len}
use Rattle.ffa_stage2.specs.Layout.{layout_right}
use Rattle.ffa_stage2.specs.Tables.{IsBuilt, KeepsRest}
use Rattle.ffa_stage2.specs.Words.{rights_until}
use Rattle.ffa_stage2.proofs.tables.grant.Given as goal

-- the pages so far
abbrev pub invariant-loop-next : goal.invariant-loop-next
invariant-loop-next g l = record {
  until : l.next ≤ l.end;
  built : IsBuilt (g.M.PhysMem.ram l.memory) (array_vec_len l.layout.regions) l.layout.tables.0 l.layout.blocks (rights_until (layout_right l.layout) l.index l.next);
  rest : KeepsRest (g.M.PhysMem.ram l.fn.memory) (g.M.PhysMem.ram l.memory) (array_vec_len l.layout.regions) l.layout.tables.0 l.layout.blocks;
  site : (g.M.PhysMem.past l.memory).site ≡ (g.M.PhysMem.past l.fn.memory).site;
}

-- the pages that are left
abbrev pub decreases-loop-next : goal.decreases-loop-next
decreases-loop-next g l = l.end - l.next
