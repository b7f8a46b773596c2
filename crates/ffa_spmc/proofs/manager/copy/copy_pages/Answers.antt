-- SPDX-License-Identifier: MIT OR Apache-2.0
use Rattle.std.proofs.Common.{[], arith}
use Rattle.std.proofs.lemmas.List.{ext_get_or}
use Rattle.ffa_spmc.proofs.manager.copy.copy_pages.Goals as goal

pub returns-clause-same : goal.returns-clause-same
returns-clause-same g c =
    let l = c.loop-page.invariant in
    let to = g.N.PhysMem.ram c.loop-page.to in
    let from = g.M.PhysMem.ram c.args.from.now in
    λ i. record {
      base = l.base i;
      pages = ext_get_or [] to.pages from.pages l.size (λ p within. l.like p (omega (arith, l.size, within, c.pages-page-end.ensures, c.loop-page-test.false))) i;
    }
