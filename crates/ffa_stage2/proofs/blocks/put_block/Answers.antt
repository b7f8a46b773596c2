-- SPDX-License-Identifier: MIT OR Apache-2.0
use Rattle.std.proofs.Common.{◌∙◌, ℕ, ◌-◌, ap, sym, arith, inl, inr, Option}
use Rattle.ffa_model.specs.Descriptor.{page_word}
use Rattle.ffa_model.specs.declared.rights.Rights.{Rights}
use Rattle.ffa_physmem.proofs.Moments.{Only-map, Only-none, Only-one}
use Rattle.ffa_physmem.proofs.Work.{adds-more, adds-none, spends-adds, store-spends}
use Rattle.ffa_model.specs.Ram.{Ram}
use Rattle.ffa_stage2.specs.Work.{change_work}
use Rattle.ffa_stage2.proofs.Work.{carry-few, carry-mixed}
use Rattle.ffa_stage2.specs.Places.{IsSameRun, word_at}
use Rattle.ffa_stage2.proofs.Moments.{orderly-more, orderly-write}
use Rattle.ffa_stage2.proofs.OneBlock.{block-first, block-here, table-here, typed, typed-other, join-maps, some_of, written-middle, KeepsBeside-of_middle}
use Rattle.ffa_stage2.proofs.PageRuns.{whole-changes}
use Rattle.ffa_stage2.proofs.blocks.put_block.Goals as goal

pub overflow_sub-word : goal.overflow_sub-word
overflow_sub-word g c =
    let x = c.args.place.now in
    let (r, is) = some_of c.args.right c.requires.some in
    let word = c.leaf-word.ensures ∙ ap (λ (q : Option Rights). page_word x.address q) is ∙ block-first x.address r c.requires.place.aligned c.requires.place.within in
    omega (arith, word)

-- the word stands already
pub returns-then-now-word-clause-mapped : goal.returns-then-now-word-clause-mapped
returns-then-now-word-clause-mapped g c =
    let x = c.args.place.now in
    let (r, is) = some_of c.args.right c.requires.some in
    let word = c.leaf-word.ensures ∙ ap (λ (q : Option Rights). page_word x.address q) is ∙ block-first x.address r c.requires.place.aligned c.requires.place.within in
    inl (record { right = r; one = λ j _. is; is = sym c.word-now.ensures ∙ c.if-now-word.true ∙ omega (arith, word) })

pub returns-then-now-word-clause-steps : goal.returns-then-now-word-clause-steps
returns-then-now-word-clause-steps g c = Only-none

-- a block of another right: its permissions alone change
pub returns-then-now-eq-BLOCK-clause-mapped : goal.returns-then-now-eq-BLOCK-clause-mapped
returns-then-now-eq-BLOCK-clause-mapped g c =
    let old = g.M.PhysMem.ram c.args.memory.now in
    let new = g.M.PhysMem.ram c.write_word.new.self in
    let x = c.args.place.now in
    let (r, is) = some_of c.args.right c.requires.some in
    let word = c.leaf-word.ensures ∙ ap (λ (q : Option Rights). page_word x.address q) is in
    join-maps old new x _ _ r c.requires.place (λ j _. is) (written-middle old new x _ c.requires.place (omega (arith, c.leaf-word.type_inv)) c.write_word.ensures.ram)
    (ap (λ (w : ℕ). w - 2) word)

pub returns-then-now-eq-BLOCK-clause-beside : goal.returns-then-now-eq-BLOCK-clause-beside
returns-then-now-eq-BLOCK-clause-beside g c =
    let old = g.M.PhysMem.ram c.args.memory.now in
    let new = g.M.PhysMem.ram c.write_word.new.self in
    let x = c.args.place.now in
    KeepsBeside-of_middle old new x _ c.requires.place (written-middle old new x _ c.requires.place (omega (arith, c.leaf-word.type_inv)) c.write_word.ensures.ram)

pub returns-then-now-eq-BLOCK-clause-steps : goal.returns-then-now-eq-BLOCK-clause-steps
returns-then-now-eq-BLOCK-clause-steps g c = Only-map (Only-one c.write_word.ensures.steps) (λ h s is. inr (is.after ∙ sym c.write_word.ensures.ram))

-- the table: break before make
pub replace-requires-clause-word : goal.replace-requires-clause-word
replace-requires-clause-word g c =
    let x = c.args.place.now in
    let (r, is) = some_of c.args.right c.requires.some in
    let word = c.leaf-word.ensures ∙ ap (λ (q : Option Rights). page_word x.address q) is ∙ block-first x.address r c.requires.place.aligned c.requires.place.within in
    inr (r, omega (arith, word))

pub returns-else-now-eq-BLOCK-clause-mapped : goal.returns-else-now-eq-BLOCK-clause-mapped
returns-else-now-eq-BLOCK-clause-mapped g c =
    let old = g.M.PhysMem.ram c.args.memory.now in
    let new = g.M.PhysMem.ram c.replace.new.memory in
    let x = c.args.place.now in
    let (r, is) = some_of c.args.right c.requires.some in
    let word = c.leaf-word.ensures ∙ ap (λ (q : Option Rights). page_word x.address q) is in
    join-maps old new x _ _ r c.requires.place (λ j _. is) c.replace.ensures.written (ap (λ (w : ℕ). w - 2) word)

pub returns-else-now-eq-BLOCK-clause-beside : goal.returns-else-now-eq-BLOCK-clause-beside
returns-else-now-eq-BLOCK-clause-beside g c =
    KeepsBeside-of_middle (g.M.PhysMem.ram c.args.memory.now) (g.M.PhysMem.ram c.replace.new.memory) c.args.place.now _ c.requires.place c.replace.ensures.written

pub returns-else-now-eq-BLOCK-clause-steps : goal.returns-else-now-eq-BLOCK-clause-steps
returns-else-now-eq-BLOCK-clause-steps g c = Only-map c.replace.ensures.steps (λ h s its. elim its [ inl cut ↦ inl cut | inr (_, is, _) ↦ inr is ])

pub returns-then-now-word-clause-orders : goal.returns-then-now-word-clause-orders
returns-then-now-word-clause-orders g c rights maps = Only-none

pub returns-then-now-eq-BLOCK-clause-orders : goal.returns-then-now-eq-BLOCK-clause-orders
returns-then-now-eq-BLOCK-clause-orders g c rights maps =
    let old = g.M.PhysMem.ram c.args.memory.now in
    let x = c.args.place.now in
    let place = c.requires.place in
    let (r, is) = some_of c.args.right c.requires.some in
    let block = block-here old x rights place maps (typed old x _ c.word-now.ensures c.if-now-eq-BLOCK.true) in
    let word = c.leaf-word.ensures ∙ ap (λ (q : Option Rights). page_word x.address q) is ∙ block-first x.address r place.aligned place.within in
    Only-map (Only-one c.write_word.ensures.steps) (λ h s wrote. orderly-write x h s old _ (IsSameRun rights 0 512 c.args.right)
    (whole-changes old x rights c.args.right r c.word-now.result (c.leaf-word.result - 2) place maps is c.word-now.ensures (omega (arith, word)) c.if-now-word.false) place (omega (arith, c.leaf-word.type_inv)) wrote.before wrote.after
    (inr (inr (
      block.right,
      r,
      ap (λ (m : Ram). word_at m x) wrote.before ∙ block.is,
      omega (arith, word),
    ))))

pub returns-else-now-eq-BLOCK-clause-orders : goal.returns-else-now-eq-BLOCK-clause-orders
returns-else-now-eq-BLOCK-clause-orders g c rights maps =
    let old = g.M.PhysMem.ram c.args.memory.now in
    let x = c.args.place.now in
    let place = c.requires.place in
    let (r, is) = some_of c.args.right c.requires.some in
    let word = c.leaf-word.ensures ∙ ap (λ (q : Option Rights). page_word x.address q) is ∙ block-first x.address r place.aligned place.within in
    Only-map c.replace.ensures.orders (λ h s its. orderly-more x h s ⊥ (IsSameRun rights 0 512 c.args.right)
    (whole-changes old x rights c.args.right r c.word-now.result (c.leaf-word.result - 2) place maps is c.word-now.ensures (omega (arith, word)) c.if-now-word.false) its)

pub returns-then-now-word-clause-few : goal.returns-then-now-word-clause-few
returns-then-now-word-clause-few g c rights maps carry is = (0, omega (arith, carry-few rights carry is), adds-none (change_work 1 0 0))

pub returns-then-now-eq-BLOCK-clause-few : goal.returns-then-now-eq-BLOCK-clause-few
returns-then-now-eq-BLOCK-clause-few g c rights maps carry is = (0, omega (arith, carry-few rights carry is), spends-adds (store-spends c.write_word.ensures.steps))

pub returns-else-now-eq-BLOCK-clause-few : goal.returns-else-now-eq-BLOCK-clause-few
returns-else-now-eq-BLOCK-clause-few g c rights maps carry is =
    let old = g.M.PhysMem.ram c.args.memory.now in
    let x = c.args.place.now in
    let (names, mixed) = table-here old x rights c.requires.place maps (typed-other old x _ c.word-now.ensures c.if-now-eq-BLOCK.false) in (
      1,
      omega (arith, carry-mixed rights carry mixed is),
      adds-more c.replace.ensures.few (record { words = omega arith; settles = omega arith; loans = omega arith; readings = omega arith }),
    )
