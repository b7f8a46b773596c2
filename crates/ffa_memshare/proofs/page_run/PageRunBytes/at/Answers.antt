-- SPDX-License-Identifier: MIT OR Apache-2.0
use Rattle.std.proofs.Common.{◌∙◌, ◌%◌, ◌<◌, ℕ, List, length, get_or, refl, sym, ap, subst}
use Rattle.ffa_model.specs.Ram.{page_of}
use Rattle.ffa_rxtx.proofs.Runs.{at-run_front, length-front}
use Rattle.ffa_memshare.proofs.page_run.PageRunBytes.at.Goals as goal

pub returns : goal.returns
returns g c =
    let x = c.self.inside in
    let is = c.self.invariant in
    let page = page_of (g.M.PhysMem.ram x.ram.now) in
    let size = length-front page x.first.0 x.pages x.len is.whole is.fits ∙ refl in
    let inside : c.args.place < x.len = subst (λ n. c.args.place < n) (sym (ap length c.self.view_is) ∙ size) c.requires in
    ap (λ (bytes : List ℕ). get_or bytes (c.args.place % 4096) 0) c.page.ensures.value
    ∙ sym (at-run_front page x.first.0 x.pages x.len is.whole is.fits c.args.place inside)
    ∙ ap (λ (bytes : List ℕ). get_or bytes c.args.place 0) c.self.view_is
