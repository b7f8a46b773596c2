-- SPDX-License-Identifier: MIT OR Apache-2.0
use Rattle.std.proofs.Common.{◌≡◌, ◌∙◌, ◌+◌, suc, ap, arith, refl, sym}
use Rattle.std.specs.Prelude.{◌||◌}
use Rattle.std.specs.List.{list_any}
use Rattle.ffa_model.specs.Identifiers.{identifier}
use Rattle.ffa_model.specs.Lists.{listed}
use Rattle.ffa_model.specs.Notices.{has_notice}
use Rattle.ffa_notify.proofs.Bits.{any-more}
use Rattle.ffa_notify.proofs.bitmaps.Bitmaps.has_notices.Goals as goal

pub loop-place-init : goal.loop-place-init
loop-place-init c = refl

pub loop-place-preserved : goal.loop-place-preserved
loop-place-preserved c =
    let next : suc c.loop-place.place ≡ c.loop-place.place + 1 = omega arith in
    (λ t. c.loop-place.invariant t || (c.has_notice-has_notices.ensures ∙ ap (has_notice c.args.self.now) c.at.ensures) t)
    ∙ sym (any-more (has_notice c.args.self.now) c.loop-place.place identifier)
    ∙ ap (λ m. list_any (has_notice c.args.self.now) (listed m identifier)) next

pub returns : goal.returns
returns c =
    let all : c.loop-place.place ≡ c.endpoints-place-end.result = omega (arith, c.loop-place-test.false, c.loop-place.auto.place-end) in
    c.loop-place.invariant
    ∙ ap (λ m. list_any (has_notice c.args.self.now) (listed m identifier)) (all ∙ c.endpoints-place-end.ensures.number)
