-- SPDX-License-Identifier: MIT OR Apache-2.0
use Rattle.std.proofs.Common.{◌+◌, ◌-◌, ◌*◌, ◌≤◌}
use Rattle.ffa_physmem.specs.Moments.{Only}
use Rattle.ffa_physmem.specs.Work.{AddsAtMost}
use Rattle.ffa_stage2.specs.Places.{IsFilled, IsFilling, IsOneOf}
use Rattle.ffa_stage2.specs.Work.{change_work}
use Rattle.ffa_stage2.proofs.blocks.write_words.Given as goal

-- the words so far
abbrev pub invariant-loop-place : goal.invariant-loop-place
invariant-loop-place g l = record {
  from : l.from ≤ l.place;
  written : IsFilled (g.M.PhysMem.ram l.fn.memory) (g.M.PhysMem.ram l.memory) l.table.0 l.from l.place (λ j. l.first + l.step * j);
  orders : Only (g.M.PhysMem.past l.fn.memory) (g.M.PhysMem.past l.memory) (λ _ s. IsOneOf (g.M.PhysMem.ram l.fn.memory) l.table.0 l.from l.place (λ j. l.first + l.step * j) s);
  steps : Only (g.M.PhysMem.past l.fn.memory) (g.M.PhysMem.past l.memory) (λ _ s. IsFilling (g.M.PhysMem.ram l.fn.memory) s.after l.table.0 l.from l.place (λ j. l.first + l.step * j));
  few : AddsAtMost (g.M.PhysMem.past l.fn.memory) (g.M.PhysMem.past l.memory) (change_work (l.place - l.from) 0 0);
}
