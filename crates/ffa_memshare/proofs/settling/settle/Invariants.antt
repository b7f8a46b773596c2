-- SPDX-License-Identifier: MIT OR Apache-2.0
use Rattle.std.proofs.Common.{◌≡◌, ℕ, List, Some, true, take}
use Rattle.ffa_physmem.specs.Moments.{IsSettledBy, Only, Step}
use Rattle.ffa_physmem.specs.Work.{AddsAtMost, settles_of}
use Rattle.ffa_memshare.specs.Ranges.{in_ranges}
use Rattle.ffa_memshare.proofs.settling.settle.Given as goal

-- the ranges so far
abbrev pub invariant-loop-place : goal.invariant-loop-place
invariant-loop-place g l = record {
  same : g.M.PhysMem.ram l.ram ≡ g.M.PhysMem.ram l.fn.ram;
  steps : Only (g.M.PhysMem.past l.fn.ram) (g.M.PhysMem.past l.ram) (λ _ s. (s.after ≡ s.before) × (s.after ≡ g.M.PhysMem.ram l.fn.ram));
  settled : (begin end p : ℕ) (h : List Step)
      → (g.M.PhysMem.past l.ram).steps ≡ Some h
      → in_ranges (g.M.PhysMem.ram l.fn.ram).base (take l.place l.ranges) p ≡ true
      → IsSettledBy begin end l.index p h;
  few : AddsAtMost (g.M.PhysMem.past l.fn.ram) (g.M.PhysMem.past l.ram) (settles_of l.place);
}
