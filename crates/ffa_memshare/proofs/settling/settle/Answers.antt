-- SPDX-License-Identifier: MIT OR Apache-2.0
use Rattle.std.proofs.Common.{◌≡◌, ◌∙◌, ℕ, ◌<◌, true, length, take, refl, sym, ap, subst, arith, inl, inr}
use Rattle.std.specs.Prelude.{◌||◌}
use Rattle.std.proofs.lemmas.Bool.{cases_Bool, false≢true}
use Rattle.std.proofs.lemmas.List.{take_all}
use Rattle.ffa_model.specs.Lists.{is_in_run}
use Rattle.ffa_model.specs.Ram.{Ram}
use Rattle.ffa_physmem.specs.Moments.{IsSettledBy}
use Rattle.ffa_physmem.proofs.Moments.{Only-none, Only-one, Only-then, settled-here, settled-still}
use Rattle.ffa_physmem.specs.Work.{settles_of}
use Rattle.ffa_physmem.proofs.Work.{adds-more, adds-none, adds-then, settle-spends, spends-adds}
use Rattle.ffa_memshare.specs.Ranges.{first_page, in_range, in_ranges}
use Rattle.ffa_memshare.proofs.Places.{in_range-between, in_ranges-more}
use Rattle.ffa_memshare.proofs.settling.settle.Goals as goal

pub loop-place-init : goal.loop-place-init
loop-place-init g c = record { same = refl; steps = Only-none; settled = λ begin end p h there inside. absurd (false≢true inside); few = adds-none (settles_of 0) }

pub loop-place-preserved : goal.loop-place-preserved
loop-place-preserved g c =
    let i = c.loop-place.invariant in
    let old : Ram = g.M.PhysMem.ram c.args.ram.now in
    let now : Ram = g.M.PhysMem.ram c.loop-place.ram in
    let ranges = c.args.ranges.now in
    let k : ℕ = c.loop-place.place in
    let range = c.at-range.result in
    let below : k < length ranges = omega (arith, c.loop-place-test.true, c.len-place-end.ensures.count) in
    let first : c.first_page-first.result ≡ first_page old.base range =
    c.first_page-first.ensures ∙ ap (λ b. first_page b range) (c.base.ensures.value ∙ ap (λ (r : Ram). r.base) i.same) in
    record {
      same = c.settle.ensures.ram ∙ i.same;
      steps = Only-then i.steps (Only-one c.settle.ensures.steps) (λ _ s its. (its.after ∙ sym its.before, its.after ∙ i.same));
      settled = λ begin end p h there inside.
          let (s, earlier, is, was, its) = c.settle.ensures.steps.each h there in
          subst (IsSettledBy begin end c.args.index p) (sym is)
          (elim (cases_Bool (in_ranges old.base (take k ranges) p)) [
            | inl before ↦ settled-still now begin end c.args.index c.args.index c.first_page-first.result range.pages p s earlier its (i.settled begin end p earlier was before)
            | inr not_before ↦
                let here : in_range old.base range p ≡ true =
                sym (ap (λ b. b || in_range old.base range p) not_before) ∙ sym (in_ranges-more old.base ranges k range below (c.at-range.ensures range) p) ∙ inside in
                settled-here now begin end c.args.index c.first_page-first.result range.pages p s earlier its
                (ap (λ f. is_in_run f range.pages p) first ∙ sym (in_range-between old.base _ range (c.requires k range below (c.at-range.ensures range)) p) ∙ here)
          ]);
      few = adds-more (adds-then i.few (spends-adds (settle-spends c.settle.ensures.steps)))
          (record { words = omega arith; settles = omega arith; loans = omega arith; readings = omega arith });
    }

pub returns-clause-settled : goal.returns-clause-settled
returns-clause-settled g c begin end p h there inside =
    let i = c.loop-place.invariant in
    let all : take c.loop-place.place c.args.ranges.now ≡ c.args.ranges.now = take_all c.loop-place.place c.args.ranges.now (omega (arith, c.len-place-end.ensures.count)) in
    i.settled begin end p h there (ap (λ ranges. in_ranges (g.M.PhysMem.ram c.args.ram.now).base ranges p) all ∙ inside)

pub returns-clause-few : goal.returns-clause-few
returns-clause-few g c =
    adds-more c.loop-place.invariant.few (record { words = omega arith; settles = omega (arith, c.loop-place.auto.place-end, c.len-place-end.ensures.count); loans = omega arith; readings = omega arith })
