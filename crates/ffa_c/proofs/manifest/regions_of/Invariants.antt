-- SPDX-License-Identifier: MIT OR Apache-2.0
use Rattle.std.proofs.Common.{◌≡◌, [], length, drop}
use Rattle.ffa_c.specs.Given.{each_given, region_given}
use Rattle.ffa_c.proofs.manifest.regions_of.Given as goal

-- the regions that are left, told after those so far, give what all regions give
abbrev pub invariant-loop-region : goal.invariant-loop-region
invariant-loop-region l = record {
  count : length l.regions.items ≡ l.region-index;
  rest : each_given region_given l.regions.items (drop l.region-index l.given) ≡ each_given region_given [] l.given;
}
