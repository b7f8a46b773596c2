-- SPDX-License-Identifier: MIT OR Apache-2.0
use Rattle.std.proofs.Common.{◌∙◌, ℕ, Bool, length, ap, arith, sym}
use Rattle.std.specs.Prelude.{◌&&◌, not}
use Rattle.std.proofs.lemmas.Bool.{and_parts}
use Rattle.ffa_model.specs.Regions.{is_normal}
use Rattle.ffa_model.proofs.NamedPages.{each-listed}
use Rattle.ffa_stage2.specs.Layout.{normal_in}
use Rattle.ffa_memshare.specs.Ranges.{in_ranges}
use Rattle.ffa_memshare.proofs.AllNamed.{all-but}
use Rattle.ffa_memshare.proofs.FirstFailing.{none-next}
use Rattle.ffa_memshare.proofs.reasons.failing.are_secure.Goals as goal

pub returns-then-is_normal_in : goal.returns-then-is_normal_in
returns-then-is_normal_in g c =
    let base = c.args.layout.now.base.0 in
    let named : ℕ → Bool = in_ranges base c.args.ranges.now in
    let normal : ℕ → Bool = is_normal base (normal_in c.args.layout.now) in
    let number = c.loop-number.number in
    let is = and_parts (named number) (normal number) (sym c.if-is_normal_in.ensures) in
    sym (all-but (λ p. not (normal p)) (length c.args.pages.now) named number (let test = c.loop-number-test.true in omega arith) is.0 (ap not is.1))

pub returns : goal.returns
returns g c =
    let base = c.args.layout.now.base.0 in
    let named : ℕ → Bool = in_ranges base c.args.ranges.now in
    let normal : ℕ → Bool = is_normal base (normal_in c.args.layout.now) in
    sym (each-listed (λ p. not (normal p)) named (length c.args.pages.now) (λ p. p)
    (λ k lt here. ap (λ b. not (b && normal k)) (sym here) ∙ ap not (c.loop-number.invariant k (let test = c.loop-number-test.false in omega arith))))

pub loop-number-preserved : goal.loop-number-preserved
loop-number-preserved g c =
    let base = c.args.layout.now.base.0 in
    let named : ℕ → Bool = in_ranges base c.args.ranges.now in
    let normal : ℕ → Bool = is_normal base (normal_in c.args.layout.now) in
    none-next (λ p. named p && normal p) c.loop-number.number c.loop-number.invariant (sym c.if-is_normal_in.ensures)
