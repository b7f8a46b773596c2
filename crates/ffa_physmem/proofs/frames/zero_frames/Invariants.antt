-- SPDX-License-Identifier: MIT OR Apache-2.0
use Rattle.std.proofs.Common.{◌≡◌, map, replicate}
use Rattle.ffa_physmem.proofs.frames.zero_frames.Given as goal

-- the frames so far
abbrev pub invariant-loop-index : goal.invariant-loop-index
invariant-loop-index g l = map (λ b. b.value) l.frames.items ≡ replicate l._index (replicate 4096 0)
