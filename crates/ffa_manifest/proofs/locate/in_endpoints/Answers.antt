-- SPDX-License-Identifier: MIT OR Apache-2.0
use Rattle.std.proofs.Common.{◌≤◌, List, Some, Ok, sym, ap, ◌∙◌, arith, length, is_err}
use Rattle.toml.specs.View.{view, items_view}
use Rattle.ffa_model.specs.declared.endpoint.Endpoint.{Endpoint}
use Rattle.ffa_model.specs.declared.endpoint.EndpointId.{EndpointId}
use Rattle.ffa_manifest.specs.RegionSpace.{is_in}
use Rattle.ffa_manifest.specs.Reading.{item_count}
use Rattle.ffa_manifest.specs.Endpoints.{next_endpoint, endpoints_from}
use Rattle.ffa_manifest.proofs.Views.{item_count_view}
use Rattle.ffa_manifest.proofs.Places.{get_item-view, first_items-all, read_each-next}
use Rattle.ffa_manifest.proofs.locate.in_endpoints.Goals as goal

pub loop-index-init : goal.loop-index-init
unfolding endpoints_from
loop-index-init c = record {
  count = ap (λ (es : List Endpoint). length es) c.new-before.ensures;
  read = ap (λ (es : List Endpoint). Ok es) (sym c.new-before.ensures);
}

pub returns-in-Err-clause-place : goal.returns-in-Err-clause-place
returns-in-Err-clause-place c = record {
  index = c.loop-index.index;
  endpoints = c.loop-index.before.items;
  value = view c.index-values-index.result;
  named = ap (λ n. let id : EndpointId = record { 0 = n } in Some id) c.at.ensures;
  before = c.loop-index.invariant.read;
  there = get_item-view c.args.values.now c.loop-index.index c.index-values-index.result c.loop-index-test.true c.index-values-index.is;
  refused = ap is_err (rw c.as_slice.ensures.value at c.in-Err.ensures);
  within = rw c.as_slice-in-Err.ensures.value at c.in_ok-region-in-Err.ensures.region;
}

pub loop-index-preserved : goal.loop-index-preserved
unfolding endpoints_from
loop-index-preserved c =
    let there = get_item-view c.args.values.now c.loop-index.index c.index-values-index.result c.loop-index-test.true c.index-values-index.is in
    let read = rw c.as_slice.ensures.value at c.in-Ok.ensures in
    let more =
    read_each-next (next_endpoint c.args.ffa (is_in c.args.space.now)) _ (items_view c.args.values.now) c.loop-index.index
    (view c.index-values-index.result) c.loop-index.before.items c.in-Ok.endpoint there c.loop-index.invariant.read read in
    record {
      count = omega (arith, c.push.ensures.len);
      read = more ∙ ap Ok (sym c.push.ensures.items);
    }

pub unreachable-requires : goal.unreachable-requires
unreachable-requires c =
    let all : item_count (items_view c.args.values.now) ≤ c.loop-index.index = omega (arith, item_count_view c.args.values.now, c.loop-index-test.false) in
    let whole = first_items-all c.loop-index.index (items_view c.args.values.now) all in
    let read = rw whole at c.loop-index.invariant.read in
    let good = ap is_err (sym read) ∙ c.requires.refused in
    absurd (cc)
