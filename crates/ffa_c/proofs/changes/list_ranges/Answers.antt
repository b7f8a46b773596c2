-- SPDX-License-Identifier: MIT OR Apache-2.0
use Rattle.std.proofs.Common.{◌≡◌, ◌∙◌, ℕ, ◌+◌, ◌<◌, replicate, ap, arith, inl, inr}
use Rattle.std.specs.Prelude.{true, false, nat_lt, slice_index_or}
use Rattle.std.proofs.lemmas.Bool.{cases_eq, cases_lt}
use Rattle.std.proofs.lemmas.Bool.Decides.{nat_tests}
use Rattle.std.proofs.lemmas.Grind.{common_steps}
use Rattle.std.proofs.lemmas.List.{get_or-replicate, get_or-set_other, get_or-set_same, get_or_past, length-replicate, length-set}
use Rattle.ffa_model.specs.declared.limits.TheConstants.{MOST_RANGES}
use Rattle.ffa_c.specs.declared.changes.CRange.{CRange}
use Rattle.ffa_c.specs.Changes.{no_range, range_told}
use Rattle.ffa_c.proofs.changes.list_ranges.Goals as goal

-- the same in each place
everywhere : (n place : ℕ) (x : CRange) → x ≡ no_range → slice_index_or (replicate n x) place no_range ≡ no_range
everywhere n place x is = elim (cases_lt place n) [
  | inl low ↦ get_or-replicate n place x no_range low ∙ is
  | inr high ↦ get_or_past (replicate n x) place no_range (omega (arith, high, length-replicate n x))
]

pub loop-place-init : goal.loop-place-init
loop-place-init c = record {
  long = grind (arith, common_steps);
  so_far = λ place other.
      let off : nat_lt place 0 ≡ false = grind (arith, nat_tests) in
      rw off (everywhere MOST_RANGES place c.none-places.result c.none-places.ensures);
}

pub loop-place-preserved : goal.loop-place-preserved
loop-place-preserved c =
    let i = c.loop-place.invariant in
    let k = c.loop-place.place in
    let few : k < MOST_RANGES = omega (arith, c.loop-place-test.true, c.len-place-end.ensures.few) in
    record {
      long = length-set c.loop-place.places k c.of.result ∙ i.long;
      so_far = λ place other. elim (cases_eq place k) [
        | inl same ↦
            let here : nat_lt place (k + 1) ≡ true = grind (arith, same, nat_tests) in
            rw here (rw same (get_or-set_same c.loop-place.places k c.of.result no_range (omega (arith, few, i.long))
            ∙ c.of.ensures ∙ ap range_told (c.at.ensures other)))
        | inr far ↦
            let still : nat_lt place (k + 1) ≡ nat_lt place k = grind (arith, far, nat_tests) in
            rw still (get_or-set_other c.loop-place.places k place c.of.result no_range far ∙ i.so_far place other)
      ];
    }
