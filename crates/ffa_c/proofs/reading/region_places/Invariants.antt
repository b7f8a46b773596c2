-- SPDX-License-Identifier: MIT OR Apache-2.0
use Rattle.std.proofs.Common.{◌≡◌, map, take}
use Rattle.ffa_model.specs.declared.limits.TheConstants.{MOST_REGIONS}
use Rattle.ffa_c.specs.Numbers.{padded, region_numbers}
use Rattle.ffa_c.specs.Reading.{no_region}
use Rattle.ffa_c.proofs.reading.region_places.Given as goal

-- the regions so far, and zeros behind them
abbrev pub invariant-loop-place : goal.invariant-loop-place
invariant-loop-place l = l.places ≡ padded MOST_REGIONS no_region (map region_numbers (take l.place l.regions))
