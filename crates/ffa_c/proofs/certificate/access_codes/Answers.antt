-- SPDX-License-Identifier: MIT OR Apache-2.0
use Rattle.std.proofs.Common.{◌<◌, ◌∙◌, length, map, sym, refl, None, arith, inl, inr}
use Rattle.std.proofs.lemmas.Bool.{cases_eq}
use Rattle.std.proofs.lemmas.List.{ext_get_or, get_or-map, get_or-set_other, get_or-set_same, length-map, length-set}
use Rattle.ffa_c.specs.Border.{access_code}
use Rattle.ffa_c.proofs.certificate.access_codes.Goals as goal

pub loop-place-init : goal.loop-place-init
loop-place-init c = record { long = refl; so_far = λ i none. omega (arith, none) }

pub loop-place-preserved : goal.loop-place-preserved
loop-place-preserved c =
    let codes = c.loop-place.codes in let k = c.loop-place.place in let code = c.code_of.result in let its = c.loop-place.invariant in
    record {
      long = length-set codes k code ∙ its.long;
      so_far = λ i below. elim (cases_eq i k) [
        | inl same ↦ rw same (get_or-set_same codes k code 0 (omega (arith, c.loop-place-test.true, its.long)) ∙ c.code_of.ensures)
        | inr other ↦ get_or-set_other codes k i code 0 other ∙ its.so_far i (omega (arith, below, other))
      ];
    }

pub returns : goal.returns
returns c =
    let access = c.args.access.now in let its = c.loop-place.invariant in
    ext_get_or 0 c.loop-place.codes (map access_code access) (its.long ∙ sym (length-map access access_code ∙ c.told-access)) (λ i low.
    let inside : i < length access = omega (arith, low, its.long, c.told-access) in
    its.so_far i (omega (arith, low, its.long, c.loop-place-test.false)) ∙ sym (get_or-map access_code access i None 0 inside))
