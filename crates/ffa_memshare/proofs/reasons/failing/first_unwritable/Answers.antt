-- SPDX-License-Identifier: MIT OR Apache-2.0
use Rattle.std.proofs.Common.{length, sym, arith}
use Rattle.std.specs.Prelude.{◌&&◌, not}
use Rattle.ffa_model.specs.Rights.{may_store}
use Rattle.ffa_pages.specs.Entry.{own_right_at}
use Rattle.ffa_memshare.specs.Ranges.{in_ranges}
use Rattle.ffa_memshare.proofs.FirstFailing.{first-at, first-none, none-next}
use Rattle.ffa_memshare.proofs.reasons.failing.first_unwritable.Goals as goal

pub returns-then-is_unwritable : goal.returns-then-is_unwritable
returns-then-is_unwritable g c =
    let table = c.args.pages.now in
    first-at (λ p. may_store (own_right_at table p)) (in_ranges c.args.base.0 c.args.ranges.now) (length table) c.loop-number.number (let test = c.loop-number-test.true in omega arith)
    c.loop-number.invariant (sym c.if-is_unwritable.ensures)

pub returns : goal.returns
returns g c =
    let table = c.args.pages.now in
    first-none (λ p. may_store (own_right_at table p)) (in_ranges c.args.base.0 c.args.ranges.now) (length table) (λ k lt. c.loop-number.invariant k (let test = c.loop-number-test.false in omega arith))

pub loop-number-preserved : goal.loop-number-preserved
loop-number-preserved g c =
    let table = c.args.pages.now in
    none-next (λ p. in_ranges c.args.base.0 c.args.ranges.now p && not (may_store (own_right_at table p))) c.loop-number.number c.loop-number.invariant (sym c.if-is_unwritable.ensures)
