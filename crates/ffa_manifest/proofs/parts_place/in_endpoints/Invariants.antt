-- SPDX-License-Identifier: MIT OR Apache-2.0
use Rattle.std.proofs.Common.{◌≡◌, [], take, drop}
use Rattle.ffa_manifest.specs.PartsPlaces.{place_from}
use Rattle.ffa_manifest.specs.RegionSpace.{is_in}
use Rattle.ffa_manifest.proofs.parts_place.in_endpoints.Given as goal

-- the place in the endpoints that are left, beside those so far, is that in all
abbrev pub invariant-loop-index : goal.invariant-loop-index
invariant-loop-index l =
    place_from l.ffa (is_in l.space) (take l.index l.endpoints) (drop l.index l.endpoints) ≡ place_from l.ffa (is_in l.space) [] l.endpoints
