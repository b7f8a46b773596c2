-- SPDX-License-Identifier: MIT OR Apache-2.0
use Rattle.std.proofs.Common.{◌≡◌, ◌++◌, take, drop}
use Rattle.ffa_tlb.specs.Slots.{without}
use Rattle.ffa_tlb.proofs.tlb.take_out.Given as goal

abbrev pub invariant-loop-slot : goal.invariant-loop-slot
invariant-loop-slot l =
    l.slots ≡ without (take l.slot-index l.initial.slots) l.endpoint.0 l.page.0 ++ drop l.slot-index l.initial.slots
