-- SPDX-License-Identifier: MIT OR Apache-2.0
use Rattle.std.proofs.Common.{◌≡◌, ◌+◌, ◌-◌, ◌*◌, ◌<◌, [], ℕ, get_or, length, take}
use Rattle.ffa_model.specs.Ram.{page_of}
use Rattle.ffa_physmem.specs.FrameRam.{ram_of as frame_ram}
use Rattle.ffa_lent.proofs.copying.copy_frames.Given as goal

abbrev pub invariant-loop-index : goal.invariant-loop-index
invariant-loop-index l = record {
  room : length l.copies ≡ length l.initial.copies;
  copied : (k : ℕ) → k < l.index → take (l.fn.bytes - 4096 * k) (get_or l.copies k [])
      ≡ take (l.fn.bytes - 4096 * k) (page_of (frame_ram l.frames) (l.fn.first.0 + k));
  whole : (k : ℕ) → k < l.index → length (get_or l.copies k []) ≡ length (page_of (frame_ram l.frames) (l.fn.first.0 + k));
}
