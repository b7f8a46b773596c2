-- SPDX-License-Identifier: MIT OR Apache-2.0
use Rattle.std.proofs.Common.{◌≡◌, ◌∙◌, ◌+◌, ◌-◌, ◌≤◌, None, arith, subst, sym}
use Rattle.std.proofs.lemmas.Grind.{common_steps}
use Rattle.arrayvec.specs.ArrayVec.{array_vec_len}
use Rattle.ffa_stage2.specs.Layout.{layout_right}
use Rattle.ffa_stage2.specs.Tables.{IsBuilt, with_pages}
use Rattle.ffa_stage2.specs.Words.{rights_until}
use Rattle.ffa_stage2.proofs.Kept.{KeepsRest-then, KeepsRest-of_others}
use Rattle.ffa_stage2.proofs.Rights.{built-same, rights_until-next, rights_until-skip, rights_until-full}
use Rattle.ffa_stage2.proofs.tables.grant.Goals as goal

pub loop-next-preserved-then-is_some : goal.loop-next-preserved-then-is_some
loop-next-preserved-then-is_some g c =
    let i = c.loop-next.invariant in
    let l = c.args.layout.now in
    let next = c.loop-next.next in
    let until = c.right_until-until.result in
    let some = c.right_until-until.ensures.some in
    let now = rights_until (layout_right l) c.args.index next in
    let end : next + (until - next) ≡ until = omega (arith, some) in
    record {
      until = c.right_until-until.ensures.end;
      built = built-same (g.M.PhysMem.ram c.set_pages.new.memory) (array_vec_len l.regions) l.tables.0 l.blocks _ (rights_until (layout_right l) c.args.index until)
          (subst (λ n. IsBuilt (g.M.PhysMem.ram c.set_pages.new.memory) (array_vec_len l.regions) l.tables.0 l.blocks (with_pages now c.args.index next n c.right-right.result)) end
          (c.set_pages.ensures.built now i.built))
          (λ e p _ _. rights_until-next (layout_right l) c.args.index next until c.right-right.result (omega (arith, some))
          (λ q low high. c.right_until-until.ensures.same q low high ∙ sym c.right-right.ensures) e p);
      rest = KeepsRest-then (g.M.PhysMem.ram c.args.memory.now) (g.M.PhysMem.ram c.loop-next.memory) (g.M.PhysMem.ram c.set_pages.new.memory) (array_vec_len l.regions) l.tables.0 l.blocks
          i.rest (KeepsRest-of_others _ _ _ _ _ c.args.index c.set_pages.ensures.others c.requires.index);
      site = c.set_pages.ensures.others_stay.site ∙ i.site;
    }

pub loop-next-preserved : goal.loop-next-preserved
loop-next-preserved g c =
    let i = c.loop-next.invariant in
    let l = c.args.layout.now in
    let until = c.right_until-until.ensures in
    let le : c.loop-next.next ≤ c.right_until-until.result = omega (arith, until.some) in
    let none : c.right-right.result ≡ None = grind (arith, common_steps) in
    record {
      until = until.end;
      built = built-same (g.M.PhysMem.ram c.loop-next.memory) (array_vec_len l.regions) l.tables.0 l.blocks _ (rights_until (layout_right l) c.args.index c.right_until-until.result) i.built
          (λ e p _ _. rights_until-skip (layout_right l) c.args.index c.loop-next.next c.right_until-until.result le
          (λ q low high. until.same q low high ∙ sym c.right-right.ensures ∙ none) e p);
      rest = i.rest;
      site = i.site;
    }

pub returns-clause-built : goal.returns-clause-built
returns-clause-built g c =
    let l = c.args.layout.now in
    built-same (g.M.PhysMem.ram c.loop-next.memory) (array_vec_len l.regions) l.tables.0 l.blocks (rights_until (layout_right l) c.args.index c.loop-next.next) (rights_until (layout_right l) (c.args.index + 1) 0)
    c.loop-next.invariant.built
    (λ e p _ hp. rights_until-full (layout_right l) c.args.index c.loop-next.next e p (omega (arith, hp, c.loop-next-test.false)))
