-- SPDX-License-Identifier: MIT OR Apache-2.0
use Rattle.std.proofs.Common.{◌≡◌, ◌∙◌, arith}
use Rattle.arrayvec.specs.ArrayVec.{array_vec_len}
use Rattle.ffa_stage2.specs.Layout.{layout_right}
use Rattle.ffa_stage2.specs.Words.{no_access, rights_until}
use Rattle.ffa_stage2.proofs.Cleared.{all-linked}
use Rattle.ffa_stage2.proofs.Rights.{built-same, rights_until-none}
use Rattle.ffa_stage2.proofs.tables.link_all.Goals as goal

pub returns-clause-built : goal.returns-clause-built
returns-clause-built g c =
    let i = c.loop-index.invariant in
    let l = c.args.layout.now in
    let all : c.loop-index.index ≡ array_vec_len l.regions = omega arith in
    let ram = g.M.PhysMem.ram c.loop-index.memory in
    built-same ram (array_vec_len l.regions) l.tables.0 l.blocks no_access (rights_until (layout_right l) 0 0)
    (all-linked ram (array_vec_len l.regions) l.tables.0 l.blocks l.base.0 (i.rest.base ∙ c.requires.base) (rw all at i.tables))
    (λ e p _ _. rights_until-none (layout_right l) e p)
