-- SPDX-License-Identifier: MIT OR Apache-2.0
use Rattle.std.proofs.Common.{◌<◌, subst}
use Rattle.ffa_notify.specs.Stored.{class_number}
use Rattle.ffa_notify.proofs.Views.{notice-read, notice-within}
use Rattle.ffa_notify.proofs.bitmaps.Bitmaps.notice.Goals as goal

pub bounds-deref-place : goal.bounds-deref-place
bounds-deref-place c =
    notice-within _ c.self.invariant c.args.self.now c.self.view_is c.args.receiver.0 (class_number c.args.class) c.requires (subst (λ k. k < 3) c.number.ensures.value c.number.ensures.few)
    c.deref.result.now c.deref.ensures.0 c.place.result c.number.result c.place.ensures c.number.ensures.value

pub returns : goal.returns
returns c =
    notice-read _ c.self.invariant c.args.self.now c.self.view_is c.args.receiver.0 (class_number c.args.class) c.requires (subst (λ k. k < 3) c.number.ensures.value c.number.ensures.few)
    c.deref.result.now c.deref.ensures.0 c.place.result c.number.result c.place.ensures c.number.ensures.value
