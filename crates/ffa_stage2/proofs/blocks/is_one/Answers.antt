-- SPDX-License-Identifier: MIT OR Apache-2.0
use Rattle.std.proofs.Common.{◌∙◌, sym, ap, not, arith}
use Rattle.std.proofs.lemmas.Bool.{both_ways, false≢true}
use Rattle.ffa_stage2.proofs.OneBlock.{one-of_uniform, uniform-of_one, some_of}
use Rattle.ffa_stage2.proofs.blocks.is_one.Goals as goal

pub returns-then-not-has_right-clause-one : goal.returns-then-not-has_right-clause-one
returns-then-not-has_right-clause-one g c rights names is = (
  λ no. absurd (false≢true no),
  λ (r, one). absurd (both_ways _ c.if-not-has_right.true
      ((c.has_right.ensures rights names).1 (one _ (omega arith) ∙ sym (one c.args.within c.requires.within) ∙ is))),
)

pub returns-then-not-has_right-2-clause-one : goal.returns-then-not-has_right-2-clause-one
returns-then-not-has_right-2-clause-one g c rights names is = (
  λ no. absurd (false≢true no),
  λ (r, one). absurd (both_ways _ c.if-not-has_right-2.true
      ((c.has_right-2.ensures rights names).1 (one _ (omega arith) ∙ sym (one c.args.within c.requires.within) ∙ is))),
)

pub returns-clause-one : goal.returns-clause-one
returns-clause-one g c rights names is =
    let ram = g.M.PhysMem.ram c.args.memory.now in
    let x = c.args.place.now in
    let (r, some) = some_of c.args.right (c.is_none.ensures ∙ ap not c.if-is_none.false) in (
      λ yes. (r, one-of_uniform ram x rights c.args.within r c.requires.place names c.requires.within (is ∙ some) (rw c.page.ensures.value at (c.is_uniform.ensures.0 yes))),
      λ (q, one). c.is_uniform.ensures.1 (rw c.page.ensures.value (uniform-of_one ram x rights q c.requires.place names one)),
    )
