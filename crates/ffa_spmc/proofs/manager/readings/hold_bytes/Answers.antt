-- SPDX-License-Identifier: MIT OR Apache-2.0
use Rattle.std.proofs.Common.{◌≡◌, ◌∙◌, ap, arith, subst, inl, inr}
use Rattle.std.proofs.lemmas.Bool.{cases_lt}
use Rattle.ffa_model.specs.Ram.{page_of}
use Rattle.ffa_model.specs.SoundState.{are_bytes}
use Rattle.ffa_model.proofs.Runs.{in-run}
use Rattle.ffa_spmc.proofs.manager.readings.hold_bytes.Goals as goal

pub loop-page-preserved : goal.loop-page-preserved
loop-page-preserved g c = λ p low high. elim (cases_lt p c.loop-page.page) [
  | inl lt ↦ c.loop-page.invariant p low lt
  | inr past ↦
      (let here : c.loop-page.page ≡ p = omega (arith, high, past) in
      subst are_bytes (c.page.ensures.value ∙ ap (page_of (g.M.PhysMem.ram c.args.ram.now)) here) c.holds_bytes.ensures)
]

pub returns : goal.returns
returns g c = λ p its.
    let (low, high) = in-run c.args.run.first.0 c.args.run.count p its in
    c.loop-page.invariant p low (omega (arith, high, c.loop-page-test.false))
