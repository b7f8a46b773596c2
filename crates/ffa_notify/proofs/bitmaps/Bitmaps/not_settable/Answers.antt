-- SPDX-License-Identifier: MIT OR Apache-2.0
use Rattle.ffa_notify.proofs.Tests.{not-settable}
use Rattle.ffa_notify.proofs.bitmaps.Bitmaps.not_settable.Goals as goal

pub returns : goal.returns
returns c = not-settable c.args.self.now c.args.receiver.0 c.args.sender.0 c.bound_to.result c.bound_to.type_inv c.bound_to.ensures
