-- SPDX-License-Identifier: MIT OR Apache-2.0
use Rattle.std.proofs.Common.{ℕ, rules, subst, sym}
use Rattle.ffa_pages.specs.Entry.{own_right_at}
use Rattle.ffa_memshare.specs.Ranges.{in_ranges}
use Rattle.ffa_memshare.specs.Work.{IsTakenFrom}
use Rattle.ffa_memshare.proofs.Work.{sent-few}
use Rattle.ffa_memshare.proofs.transaction.OpenTransaction.take_pages.Goals as goal

pub returns-clause-moved : goal.returns-clause-moved
returns-clause-moved g c = search rules

pub returns-clause-few : goal.returns-clause-few
returns-clause-few g c access split built from =
    let it = c.args.self.now in
    let base = c.args.layout.now.base.0 in
    let named = in_ranges base it.ranges in
    sent-few (g.M.PhysMem.past c.args.ram.now) (g.M.PhysMem.past c.change_pages.new.ram) it.kind c.right_after-right.result c.args.pages.now (access c.place-index.result) named base it.ranges it.zero split
    c.right_after-right.ensures
    (λ none splits. c.change_pages.ensures.taken access split none built splits)
    (λ own loses. c.change_pages.ensures.kept access own built loses)
    (subst (λ (k : ℕ). IsTakenFrom it.kind (access k) named (own_right_at c.args.pages.now) split) (sym c.place-index.ensures) from)
