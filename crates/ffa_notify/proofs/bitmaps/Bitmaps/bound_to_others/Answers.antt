-- SPDX-License-Identifier: MIT OR Apache-2.0
use Rattle.std.proofs.Common.{◌≡◌, ◌∙◌, suc, ◌+◌, ap, sym, arith}
use Rattle.std.specs.Prelude.{◌==◌, ◌&&◌, ◌||◌, not}
use Rattle.std.specs.List.{list_any}
use Rattle.ffa_model.specs.Identifiers.{identifier}
use Rattle.ffa_model.specs.Lists.{listed}
use Rattle.ffa_model.specs.Notifications.{class_of, is_bound}
use Rattle.ffa_notify.proofs.Bits.{any-more, set-or}
use Rattle.ffa_notify.proofs.bitmaps.Bitmaps.bound_to_others.Goals as goal

pub loop-place-preserved : goal.loop-place-preserved
loop-place-preserved c = λ k lt.
    let next : suc c.loop-place.place ≡ c.loop-place.place + 1 = omega arith in
    set-or k c.loop-place.bits c.bound_to_other-bits.result
    ∙ (λ t. c.loop-place.invariant k lt t || (c.bound_to_other-bits.ensures k lt ∙ ap (λ f. not (f == c.args.sender.0) && is_bound c.args.self.now c.args.receiver.0 (class_of c.args.sender.0) k f) c.at.ensures) t)
    ∙ sym (any-more (λ f. not (f == c.args.sender.0) && is_bound c.args.self.now c.args.receiver.0 (class_of c.args.sender.0) k f) c.loop-place.place identifier)
    ∙ ap (λ m. list_any (λ f. not (f == c.args.sender.0) && is_bound c.args.self.now c.args.receiver.0 (class_of c.args.sender.0) k f) (listed m identifier)) next
