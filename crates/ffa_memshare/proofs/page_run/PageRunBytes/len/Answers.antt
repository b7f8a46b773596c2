-- SPDX-License-Identifier: MIT OR Apache-2.0
use Rattle.std.proofs.Common.{◌∙◌, length, sym, ap}
use Rattle.ffa_model.specs.Ram.{page_of}
use Rattle.ffa_rxtx.proofs.Runs.{length-front}
use Rattle.ffa_memshare.proofs.page_run.PageRunBytes.len.Goals as goal

pub returns : goal.returns
returns g c =
    let x = c.self.inside in
    let is = c.self.invariant in
    sym (length-front (page_of (g.M.PhysMem.ram x.ram.now)) x.first.0 x.pages x.len is.whole is.fits) ∙ ap length c.self.view_is
