-- SPDX-License-Identifier: MIT OR Apache-2.0
use Rattle.std.proofs.Common.{◌∙◌, ap, length}
use Rattle.ffa_model.specs.Notifications.{is_pending}
use Rattle.ffa_notify.proofs.Tests.{not-bindable}
use Rattle.ffa_notify.proofs.bitmaps.Bitmaps.not_bindable.Goals as goal

pub returns : goal.returns
returns c =
    not-bindable c.args.self.now c.args.receiver.0 c.args.sender.0 (length c.args.self.now.bitmaps)
    c.bound_to_others-taken.result c.pending-pending.result c.bound_to_others-taken.ensures
    (λ k lt. c.pending-pending.ensures k lt ∙ ap (λ class. is_pending c.args.self.now c.args.receiver.0 class k) c.of.ensures)
