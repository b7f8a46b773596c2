-- SPDX-License-Identifier: MIT OR Apache-2.0
use Rattle.std.proofs.Common.{ℕ, Bool, length, sym, arith}
use Rattle.std.specs.Prelude.{◌&&◌, not}
use Rattle.ffa_model.specs.About.{passes}
use Rattle.ffa_model.specs.SendDescriptor.{send_record}
use Rattle.ffa_rxtx.specs.Parts.{ownership_in}
use Rattle.ffa_stage2.specs.Layout.{normal_in}
use Rattle.ffa_memshare.specs.Ranges.{in_ranges}
use Rattle.ffa_memshare.proofs.FirstFailing.{first-at, first-none, none-next}
use Rattle.ffa_memshare.proofs.reasons.failing.failing_offer.Goals as goal

pub returns-then-fails : goal.returns-then-fails
returns-then-fails g c =
    let table = c.args.pages.now in
    let base = c.args.layout.now.base.0 in
    let test : ℕ → Bool = passes c.args.sender.0 (ownership_in table base) c.args.buffers.now (normal_in c.args.layout.now) (send_record c.args.offer.now) c.args.refusal in
    first-at test (in_ranges base c.args.offer.now.ranges.items) (length table) c.loop-number.number (let test = c.loop-number-test.true in omega arith) c.loop-number.invariant (sym c.if-fails.ensures)

pub returns : goal.returns
returns g c =
    let table = c.args.pages.now in
    let base = c.args.layout.now.base.0 in
    let test : ℕ → Bool = passes c.args.sender.0 (ownership_in table base) c.args.buffers.now (normal_in c.args.layout.now) (send_record c.args.offer.now) c.args.refusal in
    first-none test (in_ranges base c.args.offer.now.ranges.items) (length table) (λ k lt. c.loop-number.invariant k (let test = c.loop-number-test.false in omega arith))

pub loop-number-preserved : goal.loop-number-preserved
loop-number-preserved g c =
    let table = c.args.pages.now in
    let base = c.args.layout.now.base.0 in
    let test : ℕ → Bool = passes c.args.sender.0 (ownership_in table base) c.args.buffers.now (normal_in c.args.layout.now) (send_record c.args.offer.now) c.args.refusal in
    none-next (λ p. in_ranges base c.args.offer.now.ranges.items p && not (test p)) c.loop-number.number c.loop-number.invariant (sym c.if-fails.ensures)
