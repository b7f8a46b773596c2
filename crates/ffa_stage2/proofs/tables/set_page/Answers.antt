-- SPDX-License-Identifier: MIT OR Apache-2.0
use Rattle.std.proofs.Common.{◌∙◌, ◌+◌, ◌*◌}
use Rattle.arrayvec.specs.ArrayVec.{array_vec_len}
use Rattle.ffa_physmem.proofs.Moments.{Only-map}
use Rattle.ffa_stage2.proofs.Moments.{between-same, ordered-more}
use Rattle.ffa_stage2.proofs.Rights.{built-same, with_pages-one}
use Rattle.ffa_stage2.proofs.Changes.{blocks-built}
use Rattle.ffa_stage2.specs.Tables.{IsSameIn, with_pages, with_right}
use Rattle.ffa_stage2.proofs.tables.set_page.Goals as goal

pub returns-clause-built : goal.returns-clause-built
returns-clause-built g c access built =
    let l = c.args.layout.now in
    built-same (g.M.PhysMem.ram c.set_pages.new.memory) (array_vec_len l.regions) l.tables.0 l.blocks _ _ (c.set_pages.ensures.built access built)
    (λ e p _ _. with_pages-one access c.args.index c.args.page.0 c.args.right e p)

pub returns-clause-blocks : goal.returns-clause-blocks
returns-clause-blocks g c access built = blocks-built (g.M.PhysMem.ram c.set_pages.new.memory) _ _ _ _ (returns-clause-built g c access built)

pub returns-clause-steps : goal.returns-clause-steps
returns-clause-steps g c access built =
    Only-map (c.set_pages.ensures.steps access built)
    (λ h s between. between-same s.after _ _ _ access _ _ between (λ e p. with_pages-one access c.args.index c.args.page.0 c.args.right e p))

pub returns-clause-orders : goal.returns-clause-orders
returns-clause-orders g c access built =
    let l = c.args.layout.now in
    let e = c.args.index in
    let page = c.args.page.0 in
    let right = c.args.right in
    Only-map (c.set_pages.ensures.orders access built)
    (λ h s ordered. ordered-more (g.M.PhysMem.ram c.args.memory.now) l.tables.0 l.blocks e
    (IsSameIn access (with_pages access e page (page + 1) right) e) (IsSameIn access (with_right access e page right) e) h s
    (λ k _ same j hj. with_pages-one access e page right e (512 * k + j) ∙ same j hj) ordered)

pub returns-clause-few : goal.returns-clause-few
returns-clause-few g c access split built splits = c.set_pages.ensures.few access split built splits
