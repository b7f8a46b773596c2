-- SPDX-License-Identifier: MIT OR Apache-2.0
use Rattle.std.proofs.Common.{◌≡◌, ◌∙◌, ◌+◌, ◌≤◌, ℕ, Bool, length, not, arith, sym, ap}
use Rattle.std.specs.Prelude.{◌&&◌}
use Rattle.ffa_model.specs.Regions.{is_normal}
use Rattle.ffa_stage2.specs.Layout.{normal_in}
use Rattle.ffa_memshare.specs.Ranges.{first_page}
use Rattle.ffa_memshare.proofs.AllNamed.{from-none, alike-more, whole}
use Rattle.ffa_memshare.proofs.checks.worlds.worlds_with.Goals as goal

pub loop-next-init : goal.loop-next-init
loop-next-init g c =
    let l = c.args.layout.now in
    let first = first_page l.base.0 c.args.range.now in
    let its : ℕ → Bool = is_normal l.base.0 (normal_in l) in
    record {
      from = omega (arith, c.first_page-next.ensures);
      until = omega arith;
      normal = sym (from-none its (length c.args.pages.now) first c.first_page-next.result c.args.before.are_normal c.first_page-next.ensures);
      secure = sym (from-none (λ p. not (its p)) (length c.args.pages.now) first c.first_page-next.result c.args.before.are_secure c.first_page-next.ensures);
    }

pub loop-next-preserved : goal.loop-next-preserved
loop-next-preserved g c =
    let i = c.loop-next.invariant in
    let l = c.args.layout.now in
    let first = first_page l.base.0 c.args.range.now in
    let its : ℕ → Bool = is_normal l.base.0 (normal_in l) in
    let pages = c.args.pages.now in
    let q = c.loop-next.next in
    let until = c.normal_until-next.result in
    let some = c.normal_until-next.ensures.some in
    let fits : until ≤ length pages = omega (arith, c.requires.within, c.first_page-next.ensures, c.normal_until-next.ensures.end) in
    let here = c.is_normal-is_normal.ensures in
    record {
      from = omega (arith, i.from, some);
      until = c.normal_until-next.ensures.end;
      normal =
          ap (λ b. c.loop-next.worlds.are_normal && b) here
          ∙ alike-more its (length pages) first q until c.args.before.are_normal _ i.from some fits (λ p low high. c.normal_until-next.ensures.alike p low high) i.normal;
      secure =
          ap (λ b. c.loop-next.worlds.are_secure && not b) here
          ∙ alike-more (λ p. not (its p)) (length pages) first q until c.args.before.are_secure _ i.from some fits (λ p low high. ap not (c.normal_until-next.ensures.alike p low high)) i.secure;
    }

pub returns-clause-normal : goal.returns-clause-normal
returns-clause-normal g c =
    let i = c.loop-next.invariant in
    let r = c.args.range.now in
    let l = c.args.layout.now in
    let all : c.loop-next.next ≡ first_page l.base.0 r + r.pages = omega (arith, c.first_page-next.ensures, i.until, c.loop-next-test.false) in
    i.normal ∙ ap (λ b. c.args.before.are_normal && b) (whole (is_normal l.base.0 (normal_in l)) (length c.args.pages.now) l.base.0 _ r c.loop-next.next c.requires all)

pub returns-clause-secure : goal.returns-clause-secure
returns-clause-secure g c =
    let i = c.loop-next.invariant in
    let r = c.args.range.now in
    let l = c.args.layout.now in
    let all : c.loop-next.next ≡ first_page l.base.0 r + r.pages = omega (arith, c.first_page-next.ensures, i.until, c.loop-next-test.false) in
    i.secure ∙ ap (λ b. c.args.before.are_secure && b) (whole (λ p. not (is_normal l.base.0 (normal_in l) p)) (length c.args.pages.now) l.base.0 _ r c.loop-next.next c.requires all)
