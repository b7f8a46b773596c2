-- SPDX-License-Identifier: MIT OR Apache-2.0
use Rattle.std.proofs.Common.{◌≡◌, ◌+◌, ◌<◌, [], ℕ, get_or, length}
use Rattle.ffa_model.specs.Ram.{page_of}
use Rattle.ffa_physmem.specs.FrameRam.{ram_of as frame_ram}
use Rattle.ffa_lent.proofs.ram.LentRam.look_at_copies.Given as goal

-- the copies so far
abbrev pub invariant-loop-index : goal.invariant-loop-index
invariant-loop-index l =
    (k : ℕ) → k < l.index → l.self.first.0 + k < length (frame_ram l.self.memory.frames).pages
    → length (get_or l.self.copies.items k []) ≡ length (page_of (frame_ram l.self.memory.frames) (l.self.first.0 + k))
