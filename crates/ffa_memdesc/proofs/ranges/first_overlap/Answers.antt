-- SPDX-License-Identifier: MIT OR Apache-2.0
use Rattle.ffa_memdesc.proofs.Apart.{apart_at}
use Rattle.ffa_memdesc.proofs.ranges.first_overlap.Goals.{then-are_in_order-via-then-are_in_order, then-are_in_order-via-else-are_in_order+then-are_apart_sorted}
use Rattle.ffa_memdesc.proofs.ranges.first_overlap.Goals as goal

pub returns-then-are_in_order-clause-none : goal.returns-then-are_in_order-clause-none
returns-then-are_in_order-clause-none c = elim c.then-are_in_order.branch [
  | then-are_in_order-via-then-are_in_order w ↦ apart_at _ (c.are_in_order.ensures w.if-are_in_order.true)
  | then-are_in_order-via-else-are_in_order+then-are_apart_sorted w ↦ apart_at _ (w.are_apart_sorted.ensures w.if-are_apart_sorted.true)
]
