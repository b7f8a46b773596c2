-- SPDX-License-Identifier: MIT OR Apache-2.0
use Rattle.std.proofs.Common.{◌≡◌, drop}
use Rattle.ffa_tlb.specs.Lookups.{lookup}
use Rattle.ffa_tlb.specs.Slots.{entries_of}
use Rattle.ffa_tlb.proofs.tlb.find_leaf.Given as goal

abbrev pub invariant-loop-slot : goal.invariant-loop-slot
invariant-loop-slot l =
    lookup (entries_of (drop l.slot-index l.slots)) l.endpoint.0 l.page.0 ≡ lookup (entries_of l.slots) l.endpoint.0 l.page.0
