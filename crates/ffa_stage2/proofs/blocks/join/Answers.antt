-- SPDX-License-Identifier: MIT OR Apache-2.0
use Rattle.std.proofs.Common.{◌∙◌, ℕ, ◌-◌, ap, sym, arith, inl, inr, refl, Option}
use Rattle.std.proofs.lemmas.Bool.{both_ways}
use Rattle.ffa_model.specs.Descriptor.{page_word}
use Rattle.ffa_model.specs.declared.rights.Rights.{Rights}
use Rattle.ffa_physmem.proofs.Moments.{Only-map, Only-none}
use Rattle.ffa_physmem.proofs.Work.{adds-none}
use Rattle.ffa_stage2.specs.Blocks.{IsMixed}
use Rattle.ffa_stage2.specs.Work.{change_work}
use Rattle.ffa_stage2.proofs.Moments.{orderly-more}
use Rattle.ffa_stage2.proofs.OneBlock.{block-first, join-maps, KeepsBeside-of_middle}
use Rattle.ffa_stage2.proofs.blocks.join.Goals as goal

pub overflow_sub-word : goal.overflow_sub-word
overflow_sub-word g c =
    let x = c.args.place.now in
    let (r, is) = c.is_one.ensures.some c.if-is_one.true in
    let word = c.leaf-word.ensures ∙ ap (λ (q : Option Rights). page_word x.address q) is ∙ block-first x.address r c.requires.place.aligned c.requires.place.within in
    omega (arith, word)

pub replace-requires-clause-word : goal.replace-requires-clause-word
replace-requires-clause-word g c =
    let x = c.args.place.now in
    let (r, is) = c.is_one.ensures.some c.if-is_one.true in
    let word = c.leaf-word.ensures ∙ ap (λ (q : Option Rights). page_word x.address q) is ∙ block-first x.address r c.requires.place.aligned c.requires.place.within in
    inr (r, omega (arith, word))

pub returns-then-is_one-clause-mapped : goal.returns-then-is_one-clause-mapped
returns-then-is_one-clause-mapped g c rights names is =
    let old = g.M.PhysMem.ram c.args.memory.now in
    let new = g.M.PhysMem.ram c.replace.new.memory in
    let x = c.args.place.now in
    let (r, one) = (c.is_one.ensures.one rights names is).0 c.if-is_one.true in
    let word = c.leaf-word.ensures ∙ ap (λ (q : Option Rights). page_word x.address q) (sym is ∙ one c.args.within c.requires.within) in
    join-maps old new x rights _ r c.requires.place one c.replace.ensures.written
    (ap (λ (w : ℕ). w - 2) word)

pub returns-then-is_one-clause-beside : goal.returns-then-is_one-clause-beside
returns-then-is_one-clause-beside g c =
    let old = g.M.PhysMem.ram c.args.memory.now in
    let new = g.M.PhysMem.ram c.replace.new.memory in
    let x = c.args.place.now in
    KeepsBeside-of_middle old new x _ c.requires.place c.replace.ensures.written

pub returns-else-is_one-clause-mapped : goal.returns-else-is_one-clause-mapped
returns-else-is_one-clause-mapped g c rights names is =
    inr (names, λ r one. absurd (both_ways _ c.if-is_one.false ((c.is_one.ensures.one rights names is).1 (r, one))))

pub returns-then-is_one-clause-steps : goal.returns-then-is_one-clause-steps
returns-then-is_one-clause-steps g c = Only-map c.replace.ensures.steps (λ h s its. elim its [ inl cut ↦ inl cut | inr (_, is, _) ↦ inr is ])

pub returns-else-is_one-clause-steps : goal.returns-else-is_one-clause-steps
returns-else-is_one-clause-steps g c = Only-none

pub returns-then-is_one-clause-orders : goal.returns-then-is_one-clause-orders
returns-then-is_one-clause-orders g c rights names is =
    let (r, one) = (c.is_one.ensures.one rights names is).0 c.if-is_one.true in
    Only-map c.replace.ensures.orders (λ h s its. orderly-more c.args.place.now h s ⊥ (IsMixed rights) (λ mixed. mixed r one) its)

pub returns-else-is_one-clause-orders : goal.returns-else-is_one-clause-orders
returns-else-is_one-clause-orders g c rights names is = Only-none

pub returns-then-is_one-clause-few : goal.returns-then-is_one-clause-few
returns-then-is_one-clause-few g c rights names is = (1, c.replace.ensures.few, inr (refl, (c.is_one.ensures.one rights names is).0 c.if-is_one.true))

pub returns-else-is_one-clause-few : goal.returns-else-is_one-clause-few
returns-else-is_one-clause-few g c rights names is = (0, adds-none (change_work 0 0 0), inl refl)
