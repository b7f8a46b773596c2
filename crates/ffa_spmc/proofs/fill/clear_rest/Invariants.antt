-- SPDX-License-Identifier: MIT OR Apache-2.0
use Rattle.std.proofs.Common.{◌≡◌}
use Rattle.ffa_spmc.proofs.Clearings.{IsClearedTo}
use Rattle.ffa_spmc.proofs.fill.clear_rest.Given as goal

-- the pages so far
abbrev pub invariant-loop-page : goal.invariant-loop-page
invariant-loop-page g l = record {
  cleared : IsClearedTo l.manifest (g.M.PhysMem.ram l.fn.ram) (g.M.PhysMem.ram l.ram) l.page;
  site : (g.M.PhysMem.past l.ram).site ≡ (g.M.PhysMem.past l.fn.ram).site;
}
