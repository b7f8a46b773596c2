-- SPDX-License-Identifier: MIT OR Apache-2.0
use Rattle.std.proofs.Common.{◌∙◌, ◌≤◌, take, sym, ap, arith}
use Rattle.ffa_model.specs.Ram.{page_of}
use Rattle.ffa_rxtx.proofs.Runs.{front-run}
use Rattle.ffa_memshare.proofs.page_run.PageRun.in_one_page.Goals as goal

pub returns-then-self-le-PAGE_SIZE : goal.returns-then-self-le-PAGE_SIZE
returns-then-self-le-PAGE_SIZE g c =
    let x = c.self.inside in
    let is = c.self.invariant in
    let some : 1 ≤ x.pages = omega arith in
    let few : x.len ≤ 4096 = omega arith in
    ap (take x.len) c.page.ensures.value
    ∙ sym (front-run (page_of (g.M.PhysMem.ram x.ram.now)) x.first.0 x.pages x.len some (is.whole 0 (omega (arith, some))) few)
    ∙ c.self.view_is
