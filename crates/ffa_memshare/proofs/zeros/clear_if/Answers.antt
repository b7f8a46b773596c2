-- SPDX-License-Identifier: MIT OR Apache-2.0
use Rattle.ffa_physmem.proofs.Moments.{Only-map, Only-none}
use Rattle.std.proofs.Common.{Bool, subst, sym}
use Rattle.ffa_physmem.specs.Work.{AddsAtMost}
use Rattle.ffa_physmem.proofs.Work.{adds-none}
use Rattle.ffa_memshare.specs.Work.{zeros_work}
use Rattle.ffa_memshare.proofs.zeros.clear_if.Goals as goal

pub returns-then-zero-clause-steps : goal.returns-then-zero-clause-steps
returns-then-zero-clause-steps g c = Only-map c.clear.ensures.steps (λ _ s its. (c.if-zero.true, its))

pub returns-else-zero-clause-steps : goal.returns-else-zero-clause-steps
returns-else-zero-clause-steps g c = Only-none

pub returns-then-zero-clause-few : goal.returns-then-zero-clause-few
returns-then-zero-clause-few g c =
    subst (λ (zero : Bool). AddsAtMost (g.M.PhysMem.past c.args.ram.now) (g.M.PhysMem.past c.clear.new.ram) (zeros_work zero c.args.ranges.now)) (sym c.if-zero.true) c.clear.ensures.few

pub returns-else-zero-clause-few : goal.returns-else-zero-clause-few
returns-else-zero-clause-few g c = adds-none (zeros_work c.args.zero c.args.ranges.now)
