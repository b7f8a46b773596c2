-- SPDX-License-Identifier: MIT OR Apache-2.0
use Rattle.std.proofs.Common.{◌≡◌, ◌∙◌, ◌+◌, ◌-◌, ◌<◌, ◌≤◌, length, ap, arith}
use Rattle.ffa_physmem.proofs.Moments.{Only-map, Only-none, Only-then, beside-more, loan-writing, writing-more, writing-then}
use Rattle.ffa_physmem.specs.Work.{loans_of}
use Rattle.ffa_physmem.proofs.Work.{adds-more, adds-none, adds-then, spends-adds}
use Rattle.ffa_memshare.specs.Ranges.{first_page, in_range}
use Rattle.ffa_memshare.proofs.Moments.{between-more, cleared-beside, cleared-none, cleared-page}
use Rattle.ffa_memshare.proofs.Places.{between, between-last, in_range-between}
use Rattle.ffa_memshare.proofs.zeros.clear_range.Goals as goal

pub loop-page-init : goal.loop-page-init
loop-page-init g c =
    let old = g.M.PhysMem.ram c.args.ram.now in
    let first = first_page old.base c.args.range.now in
    let start : c.first_page-first.result ≡ first = c.first_page-first.ensures ∙ ap (λ b. first_page b c.args.range.now) c.base.ensures.value in
    record {
      from = omega (arith, start);
      cleared = cleared-none old first c.first_page-first.result start;
      steps = Only-none;
      few = adds-none (loans_of (c.first_page-first.result - first));
    }

pub loop-page-preserved : goal.loop-page-preserved
loop-page-preserved g c =
    let i = c.loop-page.invariant in
    let old = g.M.PhysMem.ram c.args.ram.now in
    let middle = g.M.PhysMem.ram c.loop-page.ram in
    let new = g.M.PhysMem.ram c.clear_page.new.self in
    let first = first_page old.base c.args.range.now in
    let page = c.loop-page.page in
    let start : c.first_page-first.result ≡ first = c.first_page-first.ensures ∙ ap (λ b. first_page b c.args.range.now) c.base.ensures.value in
    let inside : page < length middle.pages = omega (arith, c.loop-page-test.true, start, i.cleared.size, c.requires.within) in
    let so_far = between first page in
    let more = between first (page + 1) in
    record {
      from = omega (arith, i.from);
      cleared = cleared-page old middle new first page i.from inside i.cleared c.clear_page.ensures.ram;
      steps = Only-then
          (Only-map i.steps (λ _ s its. writing-more old s so_far more (λ p is. between-more first page (page + 1) p (omega arith) is) its))
          c.clear_page.ensures.steps
          (λ _ s loan. writing-then old middle s more
          (beside-more old middle so_far more (λ p is. between-more first page (page + 1) p (omega arith) is) (cleared-beside old middle so_far i.cleared))
          (loan-writing middle page s more (between-last first page i.from) loan));
      few = adds-more (adds-then i.few (spends-adds c.clear_page.ensures.spent)) (record { words = omega arith; settles = omega arith; loans = omega (arith, i.from); readings = omega arith });
    }

pub returns-clause-steps : goal.returns-clause-steps
returns-clause-steps g c =
    let i = c.loop-page.invariant in
    let old = g.M.PhysMem.ram c.args.ram.now in
    let range = c.args.range.now in
    let first = first_page old.base range in
    let start : c.first_page-first.result ≡ first = c.first_page-first.ensures ∙ ap (λ b. first_page b range) c.base.ensures.value in
    let upto : c.loop-page.page ≤ first + range.pages = omega (arith, start, c.loop-page.auto.page-end) in
    Only-map i.steps (λ _ s its. writing-more old s (between first c.loop-page.page) (in_range old.base range)
    (λ p is. in_range-between old.base _ range c.requires p ∙ between-more first c.loop-page.page (first + range.pages) p upto is) its)

pub returns-clause-few : goal.returns-clause-few
returns-clause-few g c =
    let old = g.M.PhysMem.ram c.args.ram.now in
    let range = c.args.range.now in
    let first = first_page old.base range in
    let start : c.first_page-first.result ≡ first = c.first_page-first.ensures ∙ ap (λ b. first_page b range) c.base.ensures.value in
    adds-more c.loop-page.invariant.few (record { words = omega arith; settles = omega arith; loans = omega (arith, start, c.loop-page.auto.page-end); readings = omega arith })
