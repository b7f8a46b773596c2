-- SPDX-License-Identifier: MIT OR Apache-2.0
use Rattle.std.proofs.Common.{◌≡◌, ℕ}
use Rattle.std.specs.Prelude.{length, nat_lt, slice_index_or, if◌then◌else◌}
use Rattle.ffa_model.specs.declared.limits.TheConstants.{MOST_RANGES}
use Rattle.ffa_model.specs.declared.transaction.Range.{Range}
use Rattle.ffa_c.specs.Changes.{no_range, range_told}
use Rattle.ffa_c.proofs.changes.list_ranges.Given as goal

-- the ranges so far, and none behind them
abbrev pub invariant-loop-place : goal.invariant-loop-place
invariant-loop-place l = record {
  long : length l.places ≡ MOST_RANGES;
  so_far : (place : ℕ) (other : Range)
      → slice_index_or l.places place no_range ≡ (if nat_lt place l.place then range_told (slice_index_or l.ranges place other) else no_range);
}
