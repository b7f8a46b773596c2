-- SPDX-License-Identifier: MIT OR Apache-2.0
use Rattle.std.proofs.Common.{◌≤◌, ◌++◌, List, Some, Ok, sym, ap, ◌∙◌, arith, length, is_err}
use Rattle.toml.specs.View.{view, items_view}
use Rattle.ffa_model.specs.declared.endpoint.Region.{Region}
use Rattle.ffa_model.specs.Manifest.{regions_of}
use Rattle.ffa_manifest.specs.RegionSpace.{is_in}
use Rattle.ffa_manifest.specs.Reading.{item_count}
use Rattle.ffa_manifest.specs.Regions.{next_region, regions_from}
use Rattle.ffa_manifest.proofs.Views.{item_count_view}
use Rattle.ffa_manifest.proofs.Places.{get_item-view, first_items-all, read_each-next}
use Rattle.ffa_manifest.proofs.locate.in_items.Goals as goal

pub loop-index-init : goal.loop-index-init
unfolding regions_from
loop-index-init c = record {
  count = ap (λ (rs : List Region). length rs) c.new-own.ensures;
  read = ap (λ (rs : List Region). Ok rs) (sym c.new-own.ensures);
}

pub returns-in-Err-clause-region : goal.returns-in-Err-clause-region
returns-in-Err-clause-region c =
    let own = c.loop-index.own.items in
    record {
      index = c.loop-index.index;
      own = own;
      value = view c.index-values-index.result;
      named = ap Some (omega arith);
      before = c.loop-index.invariant.read;
      there = get_item-view c.args.values.now c.loop-index.index c.index-values-index.result c.loop-index-test.true c.index-values-index.is;
      refused = ap is_err (rw c.as_slice.ensures.value at c.in-Err.ensures);
    }

pub loop-index-preserved : goal.loop-index-preserved
unfolding regions_from
loop-index-preserved c =
    let there = get_item-view c.args.values.now c.loop-index.index c.index-values-index.result c.loop-index-test.true c.index-values-index.is in
    let read = rw c.as_slice.ensures.value at c.in-Ok.ensures in
    let more =
    read_each-next (λ own d. next_region (is_in c.args.space.now) (regions_of c.args.before.now ++ own) d) _ (items_view c.args.values.now) c.loop-index.index
    (view c.index-values-index.result) c.loop-index.own.items c.in-Ok.region there c.loop-index.invariant.read read in
    record {
      count = omega (arith, c.push.ensures.len);
      read = more ∙ ap Ok (sym c.push.ensures.items);
    }

pub unreachable-requires : goal.unreachable-requires
unreachable-requires c =
    let all : item_count (items_view c.args.values.now) ≤ c.loop-index.index = omega (arith, item_count_view c.args.values.now, c.loop-index-test.false) in
    let whole = first_items-all c.loop-index.index (items_view c.args.values.now) all in
    let read = rw whole at c.loop-index.invariant.read in
    let good = ap is_err (sym read) ∙ c.requires.refused in
    absurd (cc)
