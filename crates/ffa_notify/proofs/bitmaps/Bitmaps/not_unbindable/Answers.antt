-- SPDX-License-Identifier: MIT OR Apache-2.0
use Rattle.std.proofs.Common.{◌∙◌, ap}
use Rattle.ffa_model.specs.Notifications.{is_pending}
use Rattle.ffa_notify.proofs.Tests.{not-unbindable}
use Rattle.ffa_notify.proofs.bitmaps.Bitmaps.not_unbindable.Goals as goal

pub returns : goal.returns
returns c =
    not-unbindable c.args.self.now c.args.receiver.0 c.args.sender.0
    c.bound_to-bound.result c.bound_to-bound.type_inv c.bound_to-bound.ensures c.pending-pending.result
    (λ k lt. c.pending-pending.ensures k lt ∙ ap (λ class. is_pending c.args.self.now c.args.receiver.0 class k) c.of.ensures)
