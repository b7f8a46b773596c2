-- SPDX-License-Identifier: MIT OR Apache-2.0
use Rattle.std.proofs.Common.{◌≡◌, ℕ, ◌^◌, ◌<◌, List, Some}
use Rattle.arrayvec.specs.ArrayVec.{array_vec_len}
use Rattle.ffa_physmem.specs.Moments.{IsSettledBy, Step}
use Rattle.ffa_stage2.specs.Tables.{table_page}
use Rattle.ffa_stage2.proofs.tables.settle_all.Given as goal

-- the endpoints so far
abbrev pub invariant-loop-index : goal.invariant-loop-index
invariant-loop-index g l = record {
  ram : g.M.PhysMem.ram l.memory ≡ g.M.PhysMem.ram l.fn.memory;
  settled : (h : List Step) → (g.M.PhysMem.past l.memory).steps ≡ Some h
      → (e p : ℕ) → e < l.index → p < 2 ^ 20 → IsSettledBy l.layout.tables.0 (table_page l.layout.tables.0 l.layout.blocks (array_vec_len l.layout.regions) 0) e p h;
  site : (g.M.PhysMem.past l.memory).site ≡ (g.M.PhysMem.past l.fn.memory).site;
}
