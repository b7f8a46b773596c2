-- SPDX-License-Identifier: MIT OR Apache-2.0
use Rattle.std.proofs.Common.{◌∙◌, ap, sym}
use Rattle.std.specs.Prelude.{if◌then◌else◌}
use Rattle.ffa_model.specs.Notifications.{pending_word}
use Rattle.ffa_model.specs.Bits.{is_set}
use Rattle.ffa_notify.specs.Stored.{class_number}
use Rattle.ffa_notify.proofs.Asked.{flag-set, flag-unset}
use Rattle.ffa_notify.proofs.Tests.{word-pending}
use Rattle.ffa_notify.proofs.bitmaps.Bitmaps.asked_word.Goals as goal

pub returns-then-flags-number-eq1 : goal.returns-then-flags-number-eq1
returns-then-flags-number-eq1 c =
    word-pending c.args.self.now c.args.receiver.0 (class_number c.args.class) c.pending.result c.pending.type_inv c.pending.ensures
    ∙ ap (λ b. if b then pending_word c.args.self.now c.args.receiver.0 (class_number c.args.class) else 0)
    (sym (ap (λ k. is_set k c.args.flags) (sym c.number.ensures.value) ∙ flag-set c.number.result c.args.flags c.if-flags-number-eq1.true))

pub returns-else-flags-number-eq1 : goal.returns-else-flags-number-eq1
returns-else-flags-number-eq1 c =
    ap (λ b. if b then pending_word c.args.self.now c.args.receiver.0 (class_number c.args.class) else 0)
    (sym (ap (λ k. is_set k c.args.flags) (sym c.number.ensures.value) ∙ flag-unset c.number.result c.args.flags c.if-flags-number-eq1.false))
