-- SPDX-License-Identifier: MIT OR Apache-2.0
use Rattle.std.proofs.Common.{◌<◌, subst, sym}
use Rattle.ffa_notify.specs.Stored.{class_number}
use Rattle.ffa_notify.proofs.Views.{pending-changed, pending-unchanged, pending-within}
use Rattle.ffa_notify.proofs.bitmaps.Bitmaps.make_pending.Goals as goal

pub bounds-deref_mut-place-then-has : goal.bounds-deref_mut-place-then-has
bounds-deref_mut-place-then-has c =
    pending-within _ c.self.invariant c.args.self.now c.self.view_is c.args.receiver.0 (class_number c.args.class) c.requires (subst (λ k. k < 3) c.number.ensures.value c.number.ensures.few)
    c.deref_mut.result.now c.deref_mut.ensures.value c.place.result c.number.result c.place.ensures c.number.ensures.value

pub returns-then-has : goal.returns-then-has
returns-then-has c =
    pending-changed _ c.self.invariant c.args.self.now c.self.view_is c.args.receiver.0 (class_number c.args.class) c.requires (subst (λ k. k < 3) c.number.ensures.value c.number.ensures.few)
    c.deref_mut.result.now c.deref_mut.ensures.value c.place.result c.number.result c.place.ensures c.number.ensures.value (sym c.if-has.ensures) c.args.bitmap

pub returns-else-has : goal.returns-else-has
returns-else-has c = pending-unchanged c.args.self.now c.args.receiver.0 (class_number c.args.class) c.args.bitmap (sym c.if-has.ensures)
