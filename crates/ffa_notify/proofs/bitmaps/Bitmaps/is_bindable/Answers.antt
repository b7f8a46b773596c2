-- SPDX-License-Identifier: MIT OR Apache-2.0
use Rattle.std.proofs.Common.{length}
use Rattle.ffa_model.specs.Notifications.{is_bindable}
use Rattle.ffa_notify.proofs.Bits.{all_bits}
use Rattle.ffa_notify.proofs.bitmaps.Bitmaps.is_bindable.Goals as goal

pub returns : goal.returns
returns c = all_bits (is_bindable (length c.args.self.now.bitmaps) c.args.self.now c.args.receiver.0 c.args.sender.0) c.args.bitmap c.not_bindable.result c.ranges.bitmap.fits c.not_bindable.ensures
