-- SPDX-License-Identifier: MIT OR Apache-2.0
use Rattle.std.proofs.Common.{◌≡◌, ◌∙◌, List, take, ap, sym, subst, refl, arith, rules}
use Rattle.ffa_physmem.proofs.Moments.{Only-none, Only-then, beside-more, writing-more, writing-then}
use Rattle.std.proofs.lemmas.List.{take_all}
use Rattle.ffa_model.specs.declared.transaction.Range.{Range}
use Rattle.ffa_model.specs.SendDescriptor.{page_total}
use Rattle.ffa_physmem.specs.Work.{AddsAtMost, loans_of}
use Rattle.ffa_physmem.proofs.Work.{adds-more, adds-none, adds-then}
use Rattle.ffa_memshare.specs.Ranges.{in_range, in_ranges}
use Rattle.ffa_memshare.proofs.Work.{pages-more}
use Rattle.ffa_memshare.proofs.Moments.{cleared-beside, some-ranges}
use Rattle.ffa_memshare.proofs.PagesCleared.{cleared-next}
use Rattle.ffa_memshare.proofs.Places.{in_ranges-one}
use Rattle.ffa_memshare.proofs.zeros.clear.Goals as goal

pub loop-place-preserved : goal.loop-place-preserved
loop-place-preserved g c =
    let i = c.loop-place.invariant in
    let old = g.M.PhysMem.ram c.args.ram.now in
    let middle = g.M.PhysMem.ram c.loop-place.ram in
    let new = g.M.PhysMem.ram c.clear_range.new.ram in
    let ranges = c.args.ranges.now in
    let k = c.loop-place.place in
    let all = in_ranges old.base ranges in
    record {
      cleared = cleared-next old middle new old.base ranges k c.at.result (omega (arith, c.loop-place-test.true, c.len-place-end.ensures.count))
          (c.at.ensures c.at.result) i.cleared c.clear_range.ensures.cleared refl;
      steps = Only-then i.steps c.clear_range.ensures.steps
          (λ _ s its. writing-then old middle s all
          (beside-more old middle _ all (λ p is. some-ranges old.base ranges k p is) (cleared-beside old middle _ i.cleared))
          (writing-more middle s (in_range middle.base c.at.result) all
          (λ p is. in_ranges-one old.base ranges k c.at.result (omega (arith, c.loop-place-test.true, c.len-place-end.ensures.count)) (c.at.ensures c.at.result) p (ap (λ b. in_range b c.at.result p) (sym i.cleared.base) ∙ is)) its));
      few =
          let more = pages-more ranges k c.at.result (omega (arith, c.loop-place-test.true, c.len-place-end.ensures.count)) (c.at.ensures c.at.result) in
          adds-more (adds-then i.few c.clear_range.ensures.few) (record { words = omega arith; settles = omega arith; loans = omega (arith, more); readings = omega arith });
    }

pub loop-place-init : goal.loop-place-init
loop-place-init g c = record { cleared = search rules; steps = Only-none; few = adds-none (loans_of (page_total (take 0 c.args.ranges.now))) }

pub returns-clause-few : goal.returns-clause-few
returns-clause-few g c =
    let all : take c.loop-place.place c.args.ranges.now ≡ c.args.ranges.now = take_all c.loop-place.place c.args.ranges.now (omega (arith, c.len-place-end.ensures.count)) in
    subst (λ (ranges : List Range). AddsAtMost (g.M.PhysMem.past c.args.ram.now) (g.M.PhysMem.past c.loop-place.ram) (loans_of (page_total ranges))) all c.loop-place.invariant.few
