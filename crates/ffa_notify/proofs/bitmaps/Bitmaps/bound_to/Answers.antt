-- SPDX-License-Identifier: MIT OR Apache-2.0
use Rattle.ffa_notify.proofs.Views.{bound-read, bound-within}
use Rattle.ffa_notify.proofs.bitmaps.Bitmaps.bound_to.Goals as goal

pub bounds-deref-place : goal.bounds-deref-place
bounds-deref-place c =
    bound-within _ c.self.invariant c.args.self.now c.self.view_is c.args.receiver.0 c.args.sender.0 c.requires.receiver c.requires.sender
    c.deref.result.now c.deref.ensures.0 c.place.result c.place-2.result c.place.ensures c.place-2.ensures

pub returns : goal.returns
returns c =
    bound-read _ c.self.invariant c.args.self.now c.self.view_is c.args.receiver.0 c.args.sender.0 c.requires.receiver c.requires.sender
    c.deref.result.now c.deref.ensures.0 c.place.result c.place-2.result c.place.ensures c.place-2.ensures
