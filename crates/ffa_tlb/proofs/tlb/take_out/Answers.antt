-- SPDX-License-Identifier: MIT OR Apache-2.0
use Rattle.std.proofs.Common.{◌∙◌, sym}
use Rattle.ffa_tlb.proofs.Slots.{without_more}
use Rattle.ffa_tlb.proofs.tlb.take_out.Goals as goal
use Rattle.ffa_tlb.proofs.tlb.take_out.Goals.{then-has_entry, else-has_entry}

pub loop-slot-preserved : goal.loop-slot-preserved
loop-slot-preserved c =
    let step = without_more c.args.slots.now c.loop-slot.slots c.loop-slot.slot-index c.args.endpoint.0 c.args.page.0 c.loop-slot-test.true c.loop-slot.invariant in
    elim c.if-has_entry.branch [
      | then-has_entry w ↦ w.slots-is ∙ (rw (sym c.has_entry.ensures ∙ w.if-has_entry.true) at step)
      | else-has_entry w ↦ w.slots-is ∙ (rw (sym c.has_entry.ensures ∙ w.if-has_entry.false) at step)
    ]
