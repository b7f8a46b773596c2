-- SPDX-License-Identifier: MIT OR Apache-2.0
use Rattle.std.proofs.Common.{◌≡◌, take}
use Rattle.std.specs.Prelude.{map}
use Rattle.ffa_memshare.specs.PageRanges.{range_at}
use Rattle.ffa_memshare.proofs.page_ranges.PageRanges.list_in.Given as goal

-- the ranges so far
abbrev pub invariant-loop-range : goal.invariant-loop-range
invariant-loop-range l = l.ranges.items ≡ map (range_at l.self-inside.base.0) (take l.range-index (take l.self-inside.count l.self-inside.places))
