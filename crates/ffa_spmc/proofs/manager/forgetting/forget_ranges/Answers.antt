-- SPDX-License-Identifier: MIT OR Apache-2.0
use Rattle.std.proofs.Common.{◌≡◌, ◌∙◌, ◌+◌, ◌<◌, Bool, true, false, Option, None, length, take, refl, sym, ap, arith}
use Rattle.std.specs.Prelude.{◌==◌, ◌&&◌, ◌||◌, if◌then◌else◌}
use Rattle.ffa_model.specs.declared.leaf.Leaf.{Leaf}
use Rattle.ffa_model.specs.declared.transaction.Range.{Range}
use Rattle.ffa_memshare.specs.Ranges.{in_range, in_ranges}
use Rattle.ffa_memshare.proofs.Places.{in_ranges-next}
use Rattle.ffa_tlb.specs.Lookups.{lookup}
use Rattle.ffa_spmc.proofs.manager.forgetting.forget_ranges.Goals as goal

-- forgotten by the one or by the other is forgotten
forgotten-twice : (its before one : Bool) (held : Option Leaf)
    → (if its && one then None else (if its && before then None else held)) ≡ (if its && (before || one) then None else held)
forgotten-twice false before one held = refl
forgotten-twice true true true held = refl
forgotten-twice true true false held = refl
forgotten-twice true false one held = refl

pub loop-place-preserved : goal.loop-place-preserved
loop-place-preserved g c f q =
    let base = c.args.base.0 in
    let ranges = c.args.ranges.now in
    let k = c.loop-place.place in
    let range = c.at.result in
    let own = f == c.args.endpoint.0 in
    let held = lookup (g.T.Translations.entries c.args.cache.now) f q in
    let lt : k < length ranges = omega (arith, c.loop-place-test.true, c.len-place-end.ensures.count) in
    let next : in_ranges base (take (k + 1) ranges) q ≡ (in_ranges base (take k ranges) q || in_range base range q) =
    in_ranges-next base ranges k range lt q ∙ ap (λ (r : Range). in_ranges base (take k ranges) q || in_range base r q) (sym (c.at.ensures range)) in
    c.forget_range.ensures f q
    ∙ ap (λ (o : Option Leaf). if own && in_range base range q then None else o) (c.loop-place.invariant f q)
    ∙ forgotten-twice own (in_ranges base (take k ranges) q) (in_range base range q) held
    ∙ ap (λ b. if own && b then None else held) (sym next)
