-- SPDX-License-Identifier: MIT OR Apache-2.0
use Rattle.std.proofs.Common.{◌≡◌, replicate}
use Rattle.ffa_physmem.proofs.flat.zero_pages.Given as goal

-- the pages so far
abbrev pub invariant-loop-index : goal.invariant-loop-index
invariant-loop-index g l = l.pages.items ≡ replicate l._index (replicate 4096 0)
