-- SPDX-License-Identifier: MIT OR Apache-2.0
use Rattle.ffa_model.specs.Notifications.{is_unbindable}
use Rattle.ffa_notify.proofs.Bits.{all_bits}
use Rattle.ffa_notify.proofs.bitmaps.Bitmaps.is_unbindable.Goals as goal

pub returns : goal.returns
returns c = all_bits (is_unbindable c.args.self.now c.args.receiver.0 c.args.sender.0) c.args.bitmap c.not_unbindable.result c.ranges.bitmap.fits c.not_unbindable.ensures
