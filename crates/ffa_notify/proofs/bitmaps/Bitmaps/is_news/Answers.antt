-- SPDX-License-Identifier: MIT OR Apache-2.0
use Rattle.std.proofs.Common.{sym}
use Rattle.ffa_notify.specs.Stored.{class_number}
use Rattle.ffa_notify.proofs.Tests.{some-news}
use Rattle.ffa_notify.proofs.bitmaps.Bitmaps.is_news.Goals as goal

pub returns-then-has : goal.returns-then-has
returns-then-has c =
    some-news c.args.self.now c.args.receiver.0 (class_number c.args.class) c.pending.result c.pending.type_inv c.pending.ensures (sym c.if-has.ensures) c.args.bitmap c.ranges.bitmap.fits
