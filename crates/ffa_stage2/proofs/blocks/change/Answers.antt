-- SPDX-License-Identifier: MIT OR Apache-2.0
use Rattle.std.proofs.Common.{◌≡◌, ◌∙◌, ◌+◌, sym, arith}
use Rattle.std.proofs.lemmas.Bool.{both_ways, false≢true}
use Rattle.ffa_stage2.specs.Places.{IsSameRun, with_run}
use Rattle.ffa_physmem.proofs.Moments.{Only-map}
use Rattle.ffa_physmem.proofs.Work.{adds-more}
use Rattle.ffa_stage2.proofs.Work.{carry-mixed, change-named, change-part, change-whole, run-part}
use Rattle.ffa_stage2.proofs.Moments.{orderly-more, way-replaced}
use Rattle.ffa_stage2.proofs.OneBlock.{IsMapped-rights, table-here, typed-other}
use Rattle.ffa_stage2.proofs.PageRuns.{with_run-here}
use Rattle.ffa_stage2.proofs.blocks.change.Goals as goal
use Rattle.ffa_stage2.proofs.blocks.change.Goals.{else-is_whole-via-then-is_whole+else-is_some, else-is_whole-via-else-is_whole}

pub returns-then-is_some-clause-mapped : goal.returns-then-is_some-clause-mapped
returns-then-is_some-clause-mapped g c rights maps =
    let from = c.args.from in
    let to = c.args.to in
    let right = c.args.right in
    let whole : to ≡ from + 512 = c.is_whole.ensures.0 c.if-is_whole.true in
    IsMapped-rights _ _ _ _ (λ j. right) (with_run rights from to right)
    (λ j hj. sym (with_run-here rights from to right j (omega (arith, whole, c.requires.to)) (omega (arith, hj, whole))))
    c.put_block.ensures.mapped

pub returns-else-word-eq-BLOCK-clause-mapped : goal.returns-else-word-eq-BLOCK-clause-mapped
returns-else-word-eq-BLOCK-clause-mapped g c rights maps =
    let ram = g.M.PhysMem.ram c.args.memory.now in
    let x = c.args.place.now in
    c.change_table.ensures.mapped rights (table-here ram x rights c.requires.place maps (typed-other ram x _ c.word-word.ensures c.if-word-eq-BLOCK.false)).0

pub returns-then-is_some-clause-steps : goal.returns-then-is_some-clause-steps
returns-then-is_some-clause-steps g c rights maps =
    let old = g.M.PhysMem.ram c.args.memory.now in
    Only-map c.put_block.ensures.steps
    (λ h s is. way-replaced old (g.M.PhysMem.ram c.put_block.new.memory) s.after c.args.place.now rights c.args.from c.args.to c.args.right
    (returns-then-is_some-clause-mapped g c rights maps) c.put_block.ensures.beside is)

pub returns-else-word-eq-BLOCK-clause-steps : goal.returns-else-word-eq-BLOCK-clause-steps
returns-else-word-eq-BLOCK-clause-steps g c rights maps =
    let ram = g.M.PhysMem.ram c.args.memory.now in
    let x = c.args.place.now in
    c.change_table.ensures.steps rights (table-here ram x rights c.requires.place maps (typed-other ram x _ c.word-word.ensures c.if-word-eq-BLOCK.false)).0

pub returns-then-is_some-clause-orders : goal.returns-then-is_some-clause-orders
returns-then-is_some-clause-orders g c rights maps =
    let from = c.args.from in
    let to = c.args.to in
    let right = c.args.right in
    let whole : to ≡ from + 512 = c.is_whole.ensures.0 c.if-is_whole.true in
    Only-map (c.put_block.ensures.orders rights maps) (λ h s its. orderly-more c.args.place.now h s (IsSameRun rights 0 512 right) (IsSameRun rights from to right)
    (λ same j hj.
    with_run-here rights 0 512 right j (omega arith) hj
    ∙ sym (with_run-here rights from to right j (omega (arith, whole, c.requires.to)) (omega (arith, hj, whole)))
    ∙ same j hj) its)

pub returns-else-word-eq-BLOCK-clause-orders : goal.returns-else-word-eq-BLOCK-clause-orders
returns-else-word-eq-BLOCK-clause-orders g c rights maps =
    let ram = g.M.PhysMem.ram c.args.memory.now in
    let x = c.args.place.now in
    let (names, mixed) = table-here ram x rights c.requires.place maps (typed-other ram x _ c.word-word.ensures c.if-word-eq-BLOCK.false) in
    c.change_table.ensures.orders rights names mixed

pub returns-then-is_some-clause-few : goal.returns-then-is_some-clause-few
returns-then-is_some-clause-few g c rights maps carry is =
    let whole : c.args.to ≡ c.args.from + 512 = c.is_whole.ensures.0 c.if-is_whole.true in
    let (joins, balance, few) = c.put_block.ensures.few rights maps carry is in
    change-whole _ _ rights c.args.from c.args.to c.args.right carry joins (sym c.is_some.ensures ∙ c.if-is_some.true) whole c.requires.to balance few

pub returns-then-word-eq-BLOCK-clause-few : goal.returns-then-word-eq-BLOCK-clause-few
returns-then-word-eq-BLOCK-clause-few g c rights maps carry is = change-part _ _ rights c.args.from c.args.to c.args.right carry (c.split.ensures.few rights maps carry is)

pub returns-else-word-eq-BLOCK-clause-few : goal.returns-else-word-eq-BLOCK-clause-few
returns-else-word-eq-BLOCK-clause-few g c rights maps carry is =
    let ram = g.M.PhysMem.ram c.args.memory.now in
    let x = c.args.place.now in
    let (names, mixed) = table-here ram x rights c.requires.place maps (typed-other ram x _ c.word-word.ensures c.if-word-eq-BLOCK.false) in
    let (joins, few, carried) = c.change_table.ensures.few rights names in
    change-named _ _ rights c.args.from c.args.to c.args.right carry joins (carry-mixed rights carry mixed is)
    (run-part c.args.right c.args.from c.args.to c.requires.from c.requires.to (λ some whole. elim c.else-is_whole.branch [
      | else-is_whole-via-then-is_whole+else-is_some w ↦ absurd (false≢true (sym w.if-is_some.false ∙ w.is_some.ensures ∙ some))
      | else-is_whole-via-else-is_whole w ↦ absurd (both_ways _ w.if-is_whole.false (c.is_whole.ensures.1 whole))
    ]))
    few carried
