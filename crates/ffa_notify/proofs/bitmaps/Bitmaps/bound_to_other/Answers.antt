-- SPDX-License-Identifier: MIT OR Apache-2.0
use Rattle.std.proofs.Common.{◌∙◌, ap, sym}
use Rattle.std.specs.Prelude.{◌==◌, ◌&&◌, not}
use Rattle.std.proofs.lemmas.Bool.{true≢false}
use Rattle.ffa_model.specs.Notifications.{class_of}
use Rattle.ffa_notify.proofs.Bits.{set-zero}
use Rattle.ffa_notify.proofs.Stores.{neither}
use Rattle.ffa_notify.proofs.Tests.{different}
use Rattle.ffa_notify.proofs.Views.{other-class}
use Rattle.ffa_notify.proofs.bitmaps.Bitmaps.bound_to_other.Goals as goal

pub returns-then-ne : goal.returns-then-ne
returns-then-ne c = λ k lt.
    set-zero k
    ∙ sym (neither (not (c.args.other.0 == c.args.sender.0)))
    ∙ ap (λ b. not (c.args.other.0 == c.args.sender.0) && b)
    (sym (other-class _ c.self.invariant c.args.self.now c.self.view_is c.args.receiver.0 (class_of c.args.sender.0) k c.args.other.0 (λ same.
    true≢false (sym c.if-ne.true ∙ c.ne.ensures ∙ different c.of.result c.of-2.result (c.of.ensures ∙ sym same ∙ sym c.of-2.ensures)))))
