-- SPDX-License-Identifier: MIT OR Apache-2.0
use Rattle.std.proofs.Common.{arith}
use Rattle.ffa_model.specs.ResponseBytes.{range_bytes}
use Rattle.ffa_memdesc.proofs.Runs.{goes_on, ends}
use Rattle.ffa_memdesc.proofs.parts.write_ranges.Goals as goal

pub loop-i-preserved : goal.loop-i-preserved
loop-i-preserved c =
    (omega arith, λ old front w. goes_on range_bytes old front c.args.at c.args.ranges.now c.loop-i.i _ c.write_range.new.out c.loop-i-test.true (c.write_range.ensures old _ (c.loop-i.invariant.1 old front w)))

pub returns : goal.returns
returns c = λ old front w.
    ends range_bytes old front c.args.at c.args.ranges.now c.loop-i.i c.loop-i.out (let test = c.loop-i-test.false in let auto = c.loop-i.auto.i-end in omega arith) (c.loop-i.invariant.1 old front w)
