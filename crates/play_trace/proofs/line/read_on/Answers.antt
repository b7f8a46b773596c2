-- SPDX-License-Identifier: MIT OR Apache-2.0
use Rattle.std.proofs.Common.{◌+◌, ◌<◌, length, arith, eq-eqb, ne_eqb}
use Rattle.play_trace.proofs.NumberFronts.{longer, fits, last_front, more_front, no_bytes, no_digit_at, too_long, on_at}
use Rattle.play_trace.proofs.line.read_on.Goals as goal
use Rattle.play_trace.proofs.line.read_on.Goals.{else-loop-end-test, then-loop-end-test+then-value-ge-NO_DIGIT}

pub returns-then-end-bytes : goal.returns-then-end-bytes
returns-then-end-bytes c = no_bytes c.args.bytes.now c.args.end c.if-end-bytes.true c.requires.more

pub overflow_mul-number : goal.overflow_mul-number
overflow_mul-number c =
    let more = longer c.args.bytes.now c.loop-end.number c.loop-end.end c.value_or_more-value.result c.loop-end.invariant.digits c.loop-end.invariant.inside c.value_or_more-value.ensures.value (omega arith) in
    omega (arith, fits c.args.bytes.now _ (c.loop-end.end + 1) more (omega arith))

pub overflow_add-number : goal.overflow_add-number
overflow_add-number c =
    let more = longer c.args.bytes.now c.loop-end.number c.loop-end.end c.value_or_more-value.result c.loop-end.invariant.digits c.loop-end.invariant.inside c.value_or_more-value.ensures.value (omega arith) in
    omega (arith, fits c.args.bytes.now _ (c.loop-end.end + 1) more (omega arith))

pub returns-then-end-bytes-2 : goal.returns-then-end-bytes-2
returns-then-end-bytes-2 c =
    let more = longer c.args.bytes.now c.loop-end.number c.loop-end.end c.value_or_more-value.result c.loop-end.invariant.digits c.loop-end.invariant.inside c.value_or_more-value.ensures.value (omega arith) in
    last_front c.args.bytes.now _ (c.loop-end.end + 1) (omega arith) (omega arith) c.if-end-bytes-2.true more

pub returns-then-bytes-end-eq32 : goal.returns-then-bytes-end-eq32
returns-then-bytes-end-eq32 c =
    let more = longer c.args.bytes.now c.loop-end.number c.loop-end.end c.value_or_more-value.result c.loop-end.invariant.digits c.loop-end.invariant.inside c.value_or_more-value.ensures.value (omega arith) in
    more_front c.args.bytes.now _ (c.loop-end.end + 1) (omega arith) (omega arith) (omega arith) more (eq-eqb _ _ c.if-bytes-end-eq32.true)

pub loop-end-preserved : goal.loop-end-preserved
loop-end-preserved c =
    let inside : c.loop-end.end + 1 < length c.args.bytes.now = omega arith in
    record {
      digits = longer c.args.bytes.now c.loop-end.number c.loop-end.end c.value_or_more-value.result c.loop-end.invariant.digits c.loop-end.invariant.inside c.value_or_more-value.ensures.value (omega arith);
      more = on_at c.args.bytes.now (c.loop-end.end + 1) inside (ne_eqb _ _ c.if-bytes-end-eq32.false);
      inside = inside;
      few = omega arith;
    }

pub returns : goal.returns
returns c =
    elim c.loop-end-test.branch [
      | else-loop-end-test w ↦ too_long c.args.bytes.now c.loop-end.number c.loop-end.end (omega (arith, w.loop-end-test.false)) c.loop-end.invariant.digits c.loop-end.invariant.more
      | then-loop-end-test+then-value-ge-NO_DIGIT w ↦
          no_digit_at c.args.bytes.now c.loop-end.number c.loop-end.end c.loop-end.invariant.digits c.loop-end.invariant.more c.loop-end.invariant.inside (omega (arith, w.value_or_more-value.ensures.value, w.if-value-ge-NO_DIGIT.true))
    ]
