-- SPDX-License-Identifier: MIT OR Apache-2.0
-- What C is told of access that has changed.
use Rattle.std.specs.Prelude.{◌≡◌, ℕ, ◌*◌, List, length, Option, None, nat_lt, slice_index_or, if◌then◌else◌}
use Rattle.std.specs.Option.{option_and_then, option_map}
use Rattle.ffa_model.specs.declared.endpoint.EndpointId.{EndpointId}
use Rattle.ffa_model.specs.declared.transaction.Range.{Range}
use Rattle.ffa_memshare.specs.declared.changed.Changed.{Changed}
use Rattle.ffa_c.specs.declared.changes.CChange.{CChange}
use Rattle.ffa_c.specs.declared.changes.CRange.{CRange}
use Rattle.ffa_c.specs.Boarded.{Boarded}

-- a place without a range
abbrev pub no_range : CRange
no_range = record { address = 0; size = 0 }

-- a range by its address and its size in bytes
abbrev pub range_told : Range → CRange
range_told range = record { address = range.address; size = 4096 * range.pages }

-- the ranges stand in an array from its front on, and behind them none
abbrev pub StandIn : List CRange → List Range → Type 0
StandIn places ranges =
    (place : ℕ) (other : Range)
    → slice_index_or places place no_range
    ≡ (if nat_lt place (length ranges) then range_told (slice_index_or ranges place other) else no_range)

-- what is told says that this endpoint's access to the pages of these ranges has changed
pub record Says (told : CChange) (endpoint : EndpointId) (ranges : List Range) : Type 0 where
  pub whose : told.endpoint ≡ endpoint.0
  pub count : told.range_count ≡ length ranges
  pub each : StandIn told.ranges ranges

-- whose access to which ranges a machine tells that has changed, where it is somebody's
abbrev pub somebodys : Option Changed → Option (EndpointId × List Range)
somebodys changed = option_and_then (λ (c : Changed). option_map (λ (e : EndpointId). (e, c.ranges)) c.endpoint) changed

-- what C holds tells this, which may be no machine
abbrev pub told_by : Option Boarded → Option Changed
told_by held = option_and_then (λ (b : Boarded). b.machine.told) held

-- the same with nothing to tell any more
abbrev pub with_all_told : Boarded → Boarded
with_all_told b = record b { machine = record b.machine { told = None } }
