-- SPDX-License-Identifier: MIT OR Apache-2.0
use Rattle.std.proofs.Common.{◌≡◌, ◌+◌, ◌*◌, ◌-◌, ◌<◌, ℕ, length, take, drop}
use Rattle.ffa_model.specs.Ram.{page_of}
use Rattle.ffa_model.specs.Lists.{is_in_run}
use Rattle.ffa_physmem.specs.Moments.{IsBeside as ChangesOnly, IsWriting, Only}
use Rattle.ffa_physmem.specs.Work.{AddsAtMost, loans_of}
use Rattle.ffa_rxtx.specs.Parts.{run_in, with_run}
use Rattle.ffa_messages.proofs.indirect.copy_run.Given as goal

abbrev pub invariant-loop-i : goal.invariant-loop-i
invariant-loop-i g l = record {
  stays : ChangesOnly (g.M.PhysMem.ram l.fn.ram) (g.M.PhysMem.ram l.ram) (is_in_run l.to.rx.0 l.to.pages);
  steps : Only (g.M.PhysMem.past l.fn.ram) (g.M.PhysMem.past l.ram) (λ _ s. IsWriting (g.M.PhysMem.ram l.fn.ram) (is_in_run l.to.rx.0 l.to.pages) s);
  few : AddsAtMost (g.M.PhysMem.past l.fn.ram) (g.M.PhysMem.past l.ram) (loans_of l.i);
  size : length (g.M.PhysMem.ram l.ram).pages ≡ length (g.M.PhysMem.ram l.fn.ram).pages;
  same : (k : ℕ) → k < l.from.pages → page_of (g.M.PhysMem.ram l.ram) (l.from.tx.0 + k) ≡ page_of (g.M.PhysMem.ram l.fn.ram) (l.from.tx.0 + k);
  whole : (k : ℕ) → k < l.i → length (page_of (g.M.PhysMem.ram l.fn.ram) (l.from.tx.0 + k)) ≡ 4096;
  rest :
      with_run (l.to.pages - l.i) (g.M.PhysMem.ram l.ram) (l.to.rx.0 + l.i) (drop (4096 * l.i) (take l.size (run_in (g.M.PhysMem.ram l.fn.ram) l.from.tx.0 l.from.pages)))
      ≡ with_run l.to.pages (g.M.PhysMem.ram l.fn.ram) l.to.rx.0 (take l.size (run_in (g.M.PhysMem.ram l.fn.ram) l.from.tx.0 l.from.pages));
}
