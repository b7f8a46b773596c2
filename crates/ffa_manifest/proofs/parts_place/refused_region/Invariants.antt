-- SPDX-License-Identifier: MIT OR Apache-2.0
use Rattle.std.proofs.Common.{◌≡◌, List, [], ◌++◌, take, drop}
use Rattle.ffa_model.specs.declared.endpoint.Region.{Region}
use Rattle.ffa_model.specs.Manifest.{regions_of}
use Rattle.ffa_manifest.specs.Parts.{Tests, region_tests}
use Rattle.ffa_manifest.specs.PartsPlaces.{refused_from}
use Rattle.ffa_manifest.specs.RegionSpace.{is_in}
use Rattle.ffa_manifest.proofs.parts_place.refused_region.Given as goal

-- the first of the regions that are left, beside those so far, is the first of all
abbrev pub invariant-loop-index : goal.invariant-loop-index
invariant-loop-index l =
    let one : List Region → Region → Tests = λ own r. region_tests (is_in l.space) (regions_of l.before ++ own) r in
    refused_from one (take l.index l.regions) (drop l.index l.regions) ≡ refused_from one [] l.regions
