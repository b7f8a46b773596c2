-- SPDX-License-Identifier: MIT OR Apache-2.0
use Rattle.std.proofs.Common.{arith, ◌∙◌, sym}
use Rattle.play_trace.proofs.Digits.{digit_below, fits_more, no_digit, one_more}
use Rattle.play_trace.proofs.number.digits.Goals as goal

pub overflow_mul-number : goal.overflow_mul-number
overflow_mul-number c = omega (arith, fits_more c.args.word.now c.loop-byte.number c.loop-byte.byte-index 31 c.loop-byte.invariant (omega arith))

pub overflow_add-number : goal.overflow_add-number
overflow_add-number c =
    let few = digit_below _ c.in_ok-number.field-0 (sym (c.in_ok-number.was) ∙ c.digit.ensures) in
    omega (arith, fits_more c.args.word.now c.loop-byte.number c.loop-byte.byte-index 31 c.loop-byte.invariant (omega arith), few)

pub loop-byte-preserved : goal.loop-byte-preserved
loop-byte-preserved c =
    one_more c.args.word.now c.loop-byte.number c.loop-byte.byte-index c.in_ok-number.field-0 c.loop-byte.invariant c.loop-byte-test.true (sym (c.in_ok-number.was) ∙ c.digit.ensures)

pub returns-in_err-number-clause-number : goal.returns-in_err-number-clause-number
returns-in_err-number-clause-number c =
    c.from_residual.ensures
    ∙ no_digit c.args.word.now c.loop-byte.number c.loop-byte.byte-index c.loop-byte.invariant c.loop-byte-test.true (sym (c.in_err-number.was) ∙ c.digit.ensures)
