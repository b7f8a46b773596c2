-- SPDX-License-Identifier: MIT OR Apache-2.0
use Rattle.std.proofs.Common.{◌≡◌, ℕ, ◌<◌, ◌≤◌, ◌⊎◌, length, replicate}
use Rattle.ffa_model.specs.Ram.{page_of}
use Rattle.ffa_stage2.proofs.tables.clear_tables.Given as goal

-- the pages so far
abbrev pub invariant-loop-page : goal.invariant-loop-page
invariant-loop-page g l = record {
  base : (g.M.PhysMem.ram l.memory).base ≡ (g.M.PhysMem.ram l.fn.memory).base;
  size : length (g.M.PhysMem.ram l.memory).pages ≡ length (g.M.PhysMem.ram l.fn.memory).pages;
  zeros : (q : ℕ) → l.layout.tables.0 ≤ q → q < l.page → page_of (g.M.PhysMem.ram l.memory) q ≡ replicate 4096 0;
  rest : (q : ℕ) → ((q < l.layout.tables.0) ⊎ (l.page ≤ q)) → page_of (g.M.PhysMem.ram l.memory) q ≡ page_of (g.M.PhysMem.ram l.fn.memory) q;
  site : (g.M.PhysMem.past l.memory).site ≡ (g.M.PhysMem.past l.fn.memory).site;
}
