-- SPDX-License-Identifier: MIT OR Apache-2.0
use Rattle.std.proofs.Common.{◌≡◌, length, replicate, None}
use Rattle.ffa_memshare.specs.Stored.{kept_slots}
use Rattle.ffa_memshare.proofs.slots.Slots.free.Given as goal

-- the slots so far
abbrev pub invariant-loop-slot : goal.invariant-loop-slot
invariant-loop-slot g l = record {
  count : length l.self.list.items ≡ l._slot;
  slots : kept_slots l.self.list.items ≡ replicate l._slot None;
}
