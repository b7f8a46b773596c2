-- SPDX-License-Identifier: MIT OR Apache-2.0
use Rattle.std.proofs.Common.{◌≡◌, ℕ, ◌<◌, length}
use Rattle.ffa_model.specs.Ram.{page_of}
use Rattle.ffa_spmc.proofs.manager.copy.copy_pages.Given as goal

-- the pages so far
abbrev pub invariant-loop-page : goal.invariant-loop-page
invariant-loop-page g l = record {
  base : (g.N.PhysMem.ram l.to).base ≡ (g.M.PhysMem.ram l.from).base;
  size : length (g.N.PhysMem.ram l.to).pages ≡ length (g.M.PhysMem.ram l.from).pages;
  like : (p : ℕ) → p < l.page → page_of (g.N.PhysMem.ram l.to) p ≡ page_of (g.M.PhysMem.ram l.from) p;
  site : (g.N.PhysMem.past l.to).site ≡ (g.N.PhysMem.past l.fn.to).site;
}
