-- SPDX-License-Identifier: MIT OR Apache-2.0
use Rattle.std.proofs.Common.{◌≡◌, ◌∙◌, arith}
use Rattle.std.proofs.lemmas.List.{take_all}
use Rattle.ffa_memdesc.proofs.Apart.{apart_in_any_order}
use Rattle.ffa_memdesc.proofs.ranges.are_apart_sorted.Goals as goal

pub returns : goal.returns
returns c = λ holds.
    let copied : c.as_mut_slice-places.result.now ≡ c.args.ranges.now = c.as_mut_slice-places.ensures.value ∙ c.loop-range.invariant ∙ take_all c.loop-range.range-index c.args.ranges.now (omega arith) in
    apart_in_any_order c.args.ranges.now c.sort_unstable_by_key.new.self (rw (← copied) c.sort_unstable_by_key.ensures.permutation) (c.are_in_order.ensures holds)
