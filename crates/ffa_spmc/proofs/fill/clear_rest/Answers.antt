-- SPDX-License-Identifier: MIT OR Apache-2.0
use Rattle.std.proofs.Common.{◌∙◌, arith}
use Rattle.ffa_spmc.proofs.Clearings.{cleared-next, cleared-ready}
use Rattle.ffa_spmc.proofs.fill.clear_rest.Goals as goal

pub loop-page-preserved : goal.loop-page-preserved
loop-page-preserved g c =
    let its = c.clear_unowned.ensures in
    let so_far = c.loop-page.invariant.cleared in
    record {
      site = its.site ∙ c.loop-page.invariant.site;
      cleared = cleared-next c.args.manifest.now (g.M.PhysMem.ram c.args.ram.now) (g.M.PhysMem.ram c.loop-page.ram) (g.M.PhysMem.ram c.clear_unowned.new.ram) c.loop-page.page
          so_far (omega (arith, c.loop-page-test.true, c.pages-page-end.ensures, so_far.size)) its.cleared its.kept its.whole its.bytes;
    }

pub returns-clause-ready : goal.returns-clause-ready
returns-clause-ready g c =
    cleared-ready c.args.manifest.now (g.M.PhysMem.ram c.args.ram.now) (g.M.PhysMem.ram c.loop-page.ram) c.loop-page.page
    c.requires.base c.requires.size (omega (arith, c.loop-page-test.false, c.pages-page-end.ensures)) c.loop-page.invariant.cleared
