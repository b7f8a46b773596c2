-- SPDX-License-Identifier: MIT OR Apache-2.0
use Rattle.ffa_notify.proofs.Views.{bound-changed, bound-within}
use Rattle.ffa_notify.proofs.bitmaps.Bitmaps.bind_bits.Goals as goal

pub bounds-deref_mut-place : goal.bounds-deref_mut-place
bounds-deref_mut-place c =
    bound-within _ c.self.invariant c.args.self.now c.self.view_is c.args.receiver.0 c.args.sender.0 c.requires.receiver c.requires.sender
    c.deref_mut.result.now c.deref_mut.ensures.value c.place.result c.place-2.result c.place.ensures c.place-2.ensures

pub bounds-deref_mut-place-2 : goal.bounds-deref_mut-place-2
bounds-deref_mut-place-2 c =
    bound-within _ c.self.invariant c.args.self.now c.self.view_is c.args.receiver.0 c.args.sender.0 c.requires.receiver c.requires.sender
    c.deref_mut.result.now c.deref_mut.ensures.value c.place.result c.place-2.result c.place.ensures c.place-2.ensures

pub returns : goal.returns
returns c =
    bound-changed _ c.self.invariant c.args.self.now c.self.view_is c.args.receiver.0 c.args.sender.0 c.requires.receiver c.requires.sender
    c.deref_mut.result.now c.deref_mut.ensures.value c.place.result c.place-2.result c.place.ensures c.place-2.ensures c.args.bitmap
