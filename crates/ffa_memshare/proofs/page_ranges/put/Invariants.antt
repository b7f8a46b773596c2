-- SPDX-License-Identifier: MIT OR Apache-2.0
use Rattle.std.proofs.Common.{◌≡◌, take, length}
use Rattle.std.specs.Prelude.{map}
use Rattle.ffa_model.specs.declared.limits.TheConstants.{MOST_RANGES}
use Rattle.ffa_memshare.specs.PageRanges.{range_at}
use Rattle.ffa_memshare.proofs.page_ranges.put.Given as goal

-- the ranges so far
abbrev pub invariant-loop-place : goal.invariant-loop-place
invariant-loop-place g l = (map (range_at l.base.0) (take l.place l.places) ≡ take l.place l.ranges) × (length l.places ≡ MOST_RANGES)
