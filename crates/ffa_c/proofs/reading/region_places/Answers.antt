-- SPDX-License-Identifier: MIT OR Apache-2.0
use Rattle.std.proofs.Common.{◌∙◌, ap, map, replicate, set, take}
use Rattle.ffa_model.specs.declared.limits.TheConstants.{MOST_REGIONS}
use Rattle.ffa_c.specs.Numbers.{padded, region_numbers}
use Rattle.ffa_c.specs.Reading.{no_region}
use Rattle.ffa_c.proofs.Numbers.{padded-more}
use Rattle.ffa_c.proofs.reading.region_places.Goals as goal

pub loop-place-init : goal.loop-place-init
loop-place-init c = ap (λ x. replicate MOST_REGIONS x) c.none-places.ensures

pub loop-place-preserved : goal.loop-place-preserved
loop-place-preserved c =
    let i = c.loop-place.place in
    let regions = c.args.regions.now in
    ap (λ places. set places i c.of.result) c.loop-place.invariant
    ∙ (ap (set (padded MOST_REGIONS no_region (map region_numbers (take i regions))) i) c.of.ensures
    ∙ padded-more MOST_REGIONS no_region region_numbers regions i _ c.loop-place-test.true c.requires)
