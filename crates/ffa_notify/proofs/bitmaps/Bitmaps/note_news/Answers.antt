-- SPDX-License-Identifier: MIT OR Apache-2.0
use Rattle.std.proofs.Common.{◌<◌, subst, sym}
use Rattle.ffa_model.specs.Bits.{bits_of}
use Rattle.ffa_notify.specs.Stored.{class_number}
use Rattle.ffa_notify.proofs.Views.{notice-changed, notice-within, notices-unchanged}
use Rattle.ffa_notify.proofs.bitmaps.Bitmaps.note_news.Goals as goal

pub bounds-deref_mut-place : goal.bounds-deref_mut-place
bounds-deref_mut-place c =
    notice-within _ c.self.invariant c.args.self.now c.self.view_is c.args.receiver.0 (class_number c.args.class) c.requires (subst (λ k. k < 3) c.number.ensures.value c.number.ensures.few)
    c.deref_mut.result.now c.deref_mut.ensures.value c.place.result c.number.result c.place.ensures c.number.ensures.value

pub returns-then-is_news : goal.returns-then-is_news
returns-then-is_news c =
    notice-changed _ c.self.invariant c.args.self.now c.self.view_is c.args.receiver.0 (class_number c.args.class) c.requires (subst (λ k. k < 3) c.number.ensures.value c.number.ensures.few)
    c.deref_mut.result.now c.deref_mut.ensures.value c.place.result c.number.result c.place.ensures c.number.ensures.value (bits_of c.args.bitmap) (sym c.if-is_news.ensures)

pub returns-else-is_news : goal.returns-else-is_news
returns-else-is_news c = notices-unchanged c.args.self.now c.args.receiver.0 (class_number c.args.class) (bits_of c.args.bitmap) (sym c.if-is_news.ensures)
