-- SPDX-License-Identifier: MIT OR Apache-2.0
use Rattle.std.proofs.Common.{◌≡◌, ℕ, ◌<◌, length, replicate}
use Rattle.ffa_model.specs.Ram.{page_of}
use Rattle.ffa_spmc.proofs.fill.clear.Given as goal

-- the pages so far
abbrev pub invariant-loop-page : goal.invariant-loop-page
invariant-loop-page g l = record {
  base : (g.M.PhysMem.ram l.ram).base ≡ (g.M.PhysMem.ram l.fn.ram).base;
  size : length (g.M.PhysMem.ram l.ram).pages ≡ length (g.M.PhysMem.ram l.fn.ram).pages;
  zeros : (p : ℕ) → p < l.page → page_of (g.M.PhysMem.ram l.ram) p ≡ replicate 4096 0;
  site : (g.M.PhysMem.past l.ram).site ≡ (g.M.PhysMem.past l.fn.ram).site;
}
