-- SPDX-License-Identifier: MIT OR Apache-2.0
use Rattle.std.proofs.Common.{◌≡◌, ◌+◌, ◌-◌, ◌*◌, ◌^◌, ◌<◌, length, arith, rules}
use Rattle.ffa_physmem.proofs.Moments.{Only-map, Only-none, Only-one, Only-then}
use Rattle.ffa_physmem.proofs.Work.{adds-more, adds-none, adds-then, spends-adds, store-spends}
use Rattle.ffa_stage2.specs.Work.{change_work}
use Rattle.ffa_stage2.proofs.Moments.{one-more, one-of-store, one-up-to}
use Rattle.ffa_stage2.proofs.PageRuns.{filled-by, IsFilling-more, IsFilling-upto, run-fits}
use Rattle.ffa_stage2.proofs.blocks.write_words.Goals as goal

pub loop-place-preserved : goal.loop-place-preserved
loop-place-preserved g c =
    let i = c.loop-place.invariant in
    let place = c.loop-place.place in
    let old = g.M.PhysMem.ram c.args.memory.now in
    let middle = g.M.PhysMem.ram c.loop-place.memory in
    let new = g.M.PhysMem.ram c.write_word.new.self in
    let below : place < 512 = omega (arith, c.loop-place-test.true, c.requires.to) in
    let table : c.args.table.0 < length middle.pages = omega (arith, i.written.size, c.requires.table) in
    let fits : c.args.first + c.args.step * place < 2 ^ 64 = run-fits _ _ _ c.requires.step below c.requires.fits in
    record {
      from = omega (arith, i.from);
      written = filled-by old middle new c.args.table.0 c.args.from place (λ j. c.args.first + c.args.step * j) i.from i.written table below fits (rw c.from.ensures at c.write_word.ensures.ram);
      orders = Only-then (Only-map i.orders (λ h s its. one-more old c.args.table.0 c.args.from place _ s its)) (Only-one c.write_word.ensures.steps)
          (λ h s is. one-of-store s old middle c.args.table.0 c.args.from place (λ j. c.args.first + c.args.step * j) table i.written.whole below fits i.from i.written is.before
          (rw c.from.ensures at is.after));
      steps = Only-then (Only-map i.steps (λ h s is. IsFilling-more old s.after c.args.table.0 c.args.from place _ is)) (Only-one c.write_word.ensures.steps)
          (λ h s is. (
            place + 1,
            omega (arith, i.from),
            omega arith,
            filled-by old middle s.after c.args.table.0 c.args.from place (λ j. c.args.first + c.args.step * j) i.from i.written table below fits (rw c.from.ensures at is.after),
          ));
      few = adds-more (adds-then i.few (spends-adds (store-spends c.write_word.ensures.steps)))
          (record { words = omega (arith, i.from); settles = omega arith; loans = omega arith; readings = omega arith });
    }

pub loop-place-init : goal.loop-place-init
loop-place-init g c = record {
  from = omega arith;
  written = search rules;
  orders = Only-none;
  steps = Only-none;
  few = adds-none (change_work (c.args.from - c.args.from) 0 0);
}

pub returns-clause-steps : goal.returns-clause-steps
returns-clause-steps g c =
    let all : c.loop-place.place ≡ c.args.to = omega arith in
    Only-map c.loop-place.invariant.steps (λ h s is. IsFilling-upto (g.M.PhysMem.ram c.args.memory.now) s.after c.args.table.0 c.args.from c.loop-place.place c.args.to _ (omega arith) is)

pub returns-clause-orders : goal.returns-clause-orders
returns-clause-orders g c =
    let all : c.loop-place.place ≡ c.args.to = omega arith in
    Only-map c.loop-place.invariant.orders (λ h s its. one-up-to (g.M.PhysMem.ram c.args.memory.now) c.args.table.0 c.args.from c.loop-place.place c.args.to _ s (omega (arith, all)) its)

pub returns-clause-few : goal.returns-clause-few
returns-clause-few g c =
    let all : c.loop-place.place ≡ c.args.to = omega arith in
    adds-more c.loop-place.invariant.few (record { words = omega (arith, all); settles = omega arith; loans = omega arith; readings = omega arith })
