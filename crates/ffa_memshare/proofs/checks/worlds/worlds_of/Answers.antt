-- SPDX-License-Identifier: MIT OR Apache-2.0
use Rattle.std.proofs.Common.{◌≡◌, ◌∙◌, ◌<◌, ℕ, Bool, length, not, take, refl, arith, sym, ap}
use Rattle.std.proofs.lemmas.List.{take_all}
use Rattle.std.specs.Prelude.{◌&&◌}
use Rattle.ffa_model.specs.Regions.{is_normal}
use Rattle.ffa_stage2.specs.Layout.{normal_in}
use Rattle.ffa_memshare.specs.Named.{all_named}
use Rattle.ffa_memshare.specs.Ranges.{in_range, in_ranges}
use Rattle.ffa_memshare.proofs.AllNamed.{all-next, all-none}
use Rattle.ffa_memshare.proofs.checks.worlds.worlds_of.Goals as goal

pub loop-place-init : goal.loop-place-init
loop-place-init g c =
    let l = c.args.layout.now in
    let its : ℕ → Bool = is_normal l.base.0 (normal_in l) in
    record {
      normal = sym (all-none its (length c.args.pages.now) (in_ranges l.base.0 (take 0 c.args.ranges.now)) (λ p. refl));
      secure = sym (all-none (λ p. not (its p)) (length c.args.pages.now) (in_ranges l.base.0 (take 0 c.args.ranges.now)) (λ p. refl));
    }

pub loop-place-preserved : goal.loop-place-preserved
loop-place-preserved g c =
    let i = c.loop-place.invariant in
    let l = c.args.layout.now in
    let its : ℕ → Bool = is_normal l.base.0 (normal_in l) in
    let pages = c.args.pages.now in
    let ranges = c.args.ranges.now in
    let k = c.loop-place.place in
    let range = c.at.result in
    let lt : k < length ranges = omega (arith, c.loop-place-test.true, c.len-place-end.ensures.count) in
    let both = λ (test : ℕ → Bool) (before : Bool) (was : before ≡ all_named (length pages) (in_ranges l.base.0 (take k ranges)) test).
    ap (λ b. b && all_named (length pages) (in_range l.base.0 range) test) was
    ∙ sym (all-next test (length pages) l.base.0 ranges k range lt (c.at.ensures range)) in
    record {
      normal = c.worlds_with-worlds.ensures.normal ∙ both its _ i.normal;
      secure = c.worlds_with-worlds.ensures.secure ∙ both (λ p. not (its p)) _ i.secure;
    }

pub returns-clause-normal : goal.returns-clause-normal
returns-clause-normal g c =
    let l = c.args.layout.now in
    c.loop-place.invariant.normal
    ∙ ap (λ ranges. all_named (length c.args.pages.now) (in_ranges l.base.0 ranges) (is_normal l.base.0 (normal_in l))) (take_all c.loop-place.place c.args.ranges.now (omega (arith, c.len-place-end.ensures.count)))

pub returns-clause-secure : goal.returns-clause-secure
returns-clause-secure g c =
    let l = c.args.layout.now in
    c.loop-place.invariant.secure
    ∙ ap (λ ranges. all_named (length c.args.pages.now) (in_ranges l.base.0 ranges) (λ p. not (is_normal l.base.0 (normal_in l) p))) (take_all c.loop-place.place c.args.ranges.now (omega (arith, c.len-place-end.ensures.count)))
