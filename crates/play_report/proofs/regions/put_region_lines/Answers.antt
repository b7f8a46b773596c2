-- SPDX-License-Identifier: MIT OR Apache-2.0
use Rattle.std.proofs.Common.{◌≡◌, ◌<◌, [], ◌++◌, length, Some, refl, sym, ap, ◌∙◌, arith, slice_get, flat_map}
use Rattle.std.specs.Option.{option_map_or}
use Rattle.std.proofs.lemmas.Option.{slice_get_read}
use Rattle.ffa_model.specs.declared.endpoint.Endpoint.{Endpoint}
use Rattle.ffa_model.specs.Lists.{listed}
use Rattle.ffa_manifest.specs.Document.{parts_of}
use Rattle.play_trace.proofs.Listed.{parts_more}
use Rattle.play_report.specs.Layouts.{endpoint_regions, region_line}
use Rattle.play_report.proofs.regions.put_region_lines.Goals as goal

pub loop-place-preserved : goal.loop-place-preserved
loop-place-preserved c =
    let place = c.loop-place.place in
    let es = c.args.manifest.now.endpoints.items in
    let e = c.index-deref-place.result in
    let inside : place < length c.deref.result.now = omega (arith, c.loop-place-test.true, c.len-place-end.ensures.value, ap length c.deref.ensures.0) in
    let read : slice_get c.deref.result.now place ≡ Some e = slice_get_read c.deref.result.now (length c.deref.result.now) place e refl inside c.index-deref-place.is in
    let here : endpoint_regions (parts_of c.args.manifest.now) place ≡ flat_map (region_line place) e.regions.items =
    ap (λ l. flat_map (region_line place) (option_map_or (λ (x : Endpoint). x.regions.items) (slice_get l place) [])) (sym c.deref.ensures.0)
    ∙ ap (λ o. flat_map (region_line place) (option_map_or (λ (x : Endpoint). x.regions.items) o [])) read
    in
    parts_more (endpoint_regions (parts_of c.args.manifest.now)) (λ k. k) place c.args.text.now.items c.loop-place.text.items c.put_endpoint.new.text.items c.loop-place.invariant
    (c.in_ok-put_endpoint.ensures
    ∙ ap (λ rs. c.loop-place.text.items ++ flat_map (region_line place) rs) c.as_slice.ensures.value
    ∙ ap (λ (x : Endpoint). c.loop-place.text.items ++ flat_map (region_line place) x.regions.items) (sym c.index-deref-place.is)
    ∙ ap (λ l. c.loop-place.text.items ++ l) (sym here))

pub returns : goal.returns
returns c =
    let done : c.loop-place.place ≡ length c.args.manifest.now.endpoints.items = omega (arith, c.loop-place-test.false, c.loop-place.auto.place-end, c.len-place-end.ensures.value) in
    c.loop-place.invariant ∙ ap (λ n. c.args.text.now.items ++ flat_map (endpoint_regions (parts_of c.args.manifest.now)) (listed n (λ k. k))) done
