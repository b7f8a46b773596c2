-- SPDX-License-Identifier: MIT OR Apache-2.0
use Rattle.std.proofs.Common.{◌∙◌, ap, map, replicate, set, take}
use Rattle.ffa_model.specs.declared.limits.TheConstants.{MOST_ENDPOINTS}
use Rattle.ffa_c.specs.Numbers.{endpoint_numbers, padded}
use Rattle.ffa_c.specs.Reading.{no_endpoint}
use Rattle.ffa_c.proofs.Numbers.{padded-more}
use Rattle.ffa_c.proofs.reading.endpoint_places.Goals as goal

pub loop-place-init : goal.loop-place-init
loop-place-init c = ap (λ x. replicate MOST_ENDPOINTS x) c.none-places.ensures

pub loop-place-preserved : goal.loop-place-preserved
loop-place-preserved c =
    let i = c.loop-place.place in
    let endpoints = c.args.endpoints.now in
    ap (λ places. set places i c.of.result) c.loop-place.invariant
    ∙ (ap (set (padded MOST_ENDPOINTS no_endpoint (map endpoint_numbers (take i endpoints))) i) (c.of.ensures ∙ ap endpoint_numbers c.index-endpoints-place.is)
    ∙ padded-more MOST_ENDPOINTS no_endpoint endpoint_numbers endpoints i c.index-endpoints-place.result c.loop-place-test.true c.requires)
