-- SPDX-License-Identifier: MIT OR Apache-2.0
use Rattle.std.proofs.Common.{◌≡◌, take, length}
use Rattle.ffa_model.specs.declared.limits.TheConstants.{MOST_RANGES}
use Rattle.ffa_memshare.proofs.page_ranges.fill.Given as goal

-- the ranges so far
abbrev pub invariant-loop-place : goal.invariant-loop-place
invariant-loop-place l = (take l.place l.places ≡ take l.place l.ranges) × (length l.places ≡ MOST_RANGES)
