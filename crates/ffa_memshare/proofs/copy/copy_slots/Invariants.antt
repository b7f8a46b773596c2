-- SPDX-License-Identifier: MIT OR Apache-2.0
use Rattle.std.proofs.Common.{◌≡◌, ℕ, ◌<◌, length, None, slice_index_or}
use Rattle.ffa_memshare.proofs.copy.copy_slots.Given as goal

-- the slots so far
abbrev pub invariant-loop-slot : goal.invariant-loop-slot
invariant-loop-slot g l = record {
  size : length (g.O.Room.items l.slots) ≡ length (g.Q.Room.items l.others);
  like : (k : ℕ) → k < l.slot → slice_index_or (g.O.Room.items l.slots) k None ≡ slice_index_or (g.Q.Room.items l.others) k None;
}
