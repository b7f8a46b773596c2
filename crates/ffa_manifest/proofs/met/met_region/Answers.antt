-- SPDX-License-Identifier: MIT OR Apache-2.0
use Rattle.std.proofs.Common.{◌≡◌, ◌≤◌, length, ap, ◌∙◌, arith, slice_get}
use Rattle.std.specs.Option.{option_map_or}
use Rattle.std.proofs.lemmas.Option.{slice_get_past}
use Rattle.ffa_model.specs.declared.endpoint.Endpoint.{Endpoint}
use Rattle.ffa_model.specs.Identifiers.{place}
use Rattle.ffa_model.proofs.Places.{place-identifier}
use Rattle.ffa_manifest.specs.Meeting.{regions_at}
use Rattle.ffa_manifest.proofs.Taken.{free_of_both}
use Rattle.ffa_manifest.proofs.met.met_region.Goals as goal

pub returns-in_err-place : goal.returns-in_err-place
returns-in_err-place c =
    let whole : length c.args.endpoints.now ≤ c.loop-index.index = omega (arith, c.loop-index-test.false) in
    rw c.from_residual.ensures (free_of_both c.args.region.now c.args.endpoints.now c.args.own.now c.loop-index.index whole c.loop-index.invariant c.in_err-place.ensures)

pub returns : goal.returns
returns c =
    let es = c.args.endpoints.now in
    let own = c.args.own.now in
    let at : place c.at-2.result.0 ≡ length es = ap place c.at-2.ensures ∙ place-identifier (length es) in
    let past : length es ≤ length es = omega arith in
    record {
      known = omega (arith, at);
      stands = ap (λ k. slice_get (regions_at es own k) c.in_ok-place.place) at
          ∙ ap (λ o. slice_get (option_map_or (λ (e : Endpoint). e.regions.items) o own) c.in_ok-place.place) (slice_get_past es (length es) past)
          ∙ c.in_ok-place.ensures.0;
      shared = c.in_ok-place.ensures.1;
    }
