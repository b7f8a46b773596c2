-- SPDX-License-Identifier: MIT OR Apache-2.0
use Rattle.ffa_model.specs.Notifications.{class_of, is_bound}
use Rattle.ffa_notify.proofs.Bits.{all_bits}
use Rattle.ffa_notify.proofs.bitmaps.Bitmaps.is_settable.Goals as goal

pub returns : goal.returns
returns c = all_bits (λ k. is_bound c.args.self.now c.args.receiver.0 (class_of c.args.sender.0) k c.args.sender.0) c.args.bitmap c.not_settable.result c.ranges.bitmap.fits c.not_settable.ensures
