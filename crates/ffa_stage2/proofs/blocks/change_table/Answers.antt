-- SPDX-License-Identifier: MIT OR Apache-2.0
use Rattle.std.proofs.Common.{◌∙◌, ◌-◌, arith, rules, sym, inl, inr}
use Rattle.ffa_physmem.proofs.Moments.{Only-map, Only-then}
use Rattle.ffa_physmem.proofs.Work.{adds-more, adds-then}
use Rattle.ffa_stage2.proofs.Moments.{cut-then, names-filled, orderly-more, orderly-table, way-table, way-replaced}
use Rattle.ffa_stage2.proofs.PageRuns.{KeepsBeside-of_filled, with_run-here}
use Rattle.ffa_stage2.specs.Blocks.{IsMixed}
use Rattle.ffa_stage2.specs.Places.{IsSameRun, with_run}
use Rattle.ffa_stage2.proofs.blocks.change_table.Goals as goal

pub returns-clause-mapped : goal.returns-clause-mapped
returns-clause-mapped g c = search rules

pub returns-clause-beside : goal.returns-clause-beside
returns-clause-beside g c = search rules

-- a page's word is written while the table stands, and a block where all have one right
pub returns-clause-steps : goal.returns-clause-steps
returns-clause-steps g c rights names =
    let old = g.M.PhysMem.ram c.args.memory.now in
    let new = g.M.PhysMem.ram c.join.new.memory in
    let x = c.args.place.now in
    Only-then
    (Only-map c.fill.ensures.steps (λ h s some. way-table old s.after x rights c.args.from c.args.to c.args.right c.requires.place names c.requires.to some))
    c.join.ensures.steps
    (λ h s its. way-replaced old new s.after x rights c.args.from c.args.to c.args.right (returns-clause-mapped g c rights names) (returns-clause-beside g c)
    (elim its [ inl cut ↦ inl (cut-then old _ s.after x (KeepsBeside-of_filled old _ x c.args.from c.args.to _ c.requires.place c.fill.ensures.filled) cut) | inr is ↦ inr is ]))

pub returns-clause-orders : goal.returns-clause-orders
returns-clause-orders g c rights names mixed =
    let old = g.M.PhysMem.ram c.args.memory.now in
    let full = g.M.PhysMem.ram c.fill.new.memory in
    let x = c.args.place.now in
    let from = c.args.from in
    let to = c.args.to in
    let right = c.args.right in
    let run = with_run rights from to right in
    Only-then (Only-map c.fill.ensures.orders (λ h s one. orderly-table x h s old to from right rights c.requires.place names c.requires.to one))
    (c.join.ensures.orders run (names-filled old full x rights from to right c.requires.place names c.fill.ensures.filled)
    (with_run-here rights from to right (to - 1) (omega (arith, c.requires.from)) (omega (arith, c.requires.from))))
    (λ h s its. orderly-more x h s (IsMixed run) (IsSameRun rights from to right) (λ same r one. mixed r (λ j hj. sym (same j hj) ∙ one j hj)) its)

pub returns-clause-few : goal.returns-clause-few
returns-clause-few g c rights names =
    let old = g.M.PhysMem.ram c.args.memory.now in
    let full = g.M.PhysMem.ram c.fill.new.memory in
    let x = c.args.place.now in
    let from = c.args.from in
    let to = c.args.to in
    let right = c.args.right in
    let (joins, few, carried) = c.join.ensures.few (with_run rights from to right) (names-filled old full x rights from to right c.requires.place names c.fill.ensures.filled)
    (with_run-here rights from to right (to - 1) (omega (arith, c.requires.from)) (omega (arith, c.requires.from))) in (
      joins,
      adds-more (adds-then c.fill.ensures.few few) (record { words = omega arith; settles = omega arith; loans = omega arith; readings = omega arith }),
      carried,
    )
