-- SPDX-License-Identifier: MIT OR Apache-2.0
use Rattle.std.proofs.Common.{◌+◌, arith, eq-eqb, ne_eqb}
use Rattle.play_trace.proofs.NumberFronts.{four_longer, fits, last_front, more_front, on_at}
use Rattle.play_trace.proofs.line.read_front.Goals as goal

pub overflow_mul-number : goal.overflow_mul-number
overflow_mul-number c =
    let more = four_longer c.args.bytes.now c.loop-end.number c.loop-end.end c.four_or_more-four.result c.loop-end.invariant.digits (omega arith) c.four_or_more-four.ensures (omega arith) in
    omega (arith, fits c.args.bytes.now _ (c.loop-end.end + 4) more (omega arith))

pub overflow_add-number : goal.overflow_add-number
overflow_add-number c =
    let more = four_longer c.args.bytes.now c.loop-end.number c.loop-end.end c.four_or_more-four.result c.loop-end.invariant.digits (omega arith) c.four_or_more-four.ensures (omega arith) in
    omega (arith, fits c.args.bytes.now _ (c.loop-end.end + 4) more (omega arith))

pub returns-then-end-bytes : goal.returns-then-end-bytes
returns-then-end-bytes c =
    let more = four_longer c.args.bytes.now c.loop-end.number c.loop-end.end c.four_or_more-four.result c.loop-end.invariant.digits (omega arith) c.four_or_more-four.ensures (omega arith) in
    last_front c.args.bytes.now _ (c.loop-end.end + 4) (omega arith) (omega arith) c.if-end-bytes.true more

pub returns-then-bytes-end-eq32 : goal.returns-then-bytes-end-eq32
returns-then-bytes-end-eq32 c =
    let more = four_longer c.args.bytes.now c.loop-end.number c.loop-end.end c.four_or_more-four.result c.loop-end.invariant.digits (omega arith) c.four_or_more-four.ensures (omega arith) in
    more_front c.args.bytes.now _ (c.loop-end.end + 4) (omega arith) (omega arith) (omega arith) more (eq-eqb _ _ c.if-bytes-end-eq32.true)

pub loop-end-preserved : goal.loop-end-preserved
loop-end-preserved c = record {
  digits = four_longer c.args.bytes.now c.loop-end.number c.loop-end.end c.four_or_more-four.result c.loop-end.invariant.digits (omega arith) c.four_or_more-four.ensures (omega arith);
  more = on_at c.args.bytes.now (c.loop-end.end + 4) (omega arith) (ne_eqb _ _ c.if-bytes-end-eq32.false);
  few = omega arith;
}
