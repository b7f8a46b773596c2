-- SPDX-License-Identifier: MIT OR Apache-2.0
use Rattle.std.proofs.Common.{◌≡◌, map, take}
use Rattle.ffa_model.specs.declared.limits.TheConstants.{MOST_ENDPOINTS}
use Rattle.ffa_c.specs.Numbers.{endpoint_numbers, padded}
use Rattle.ffa_c.specs.Reading.{no_endpoint}
use Rattle.ffa_c.proofs.reading.endpoint_places.Given as goal

-- the endpoints so far, and zeros behind them
abbrev pub invariant-loop-place : goal.invariant-loop-place
invariant-loop-place l = l.places ≡ padded MOST_ENDPOINTS no_endpoint (map endpoint_numbers (take l.place l.endpoints))
