-- SPDX-License-Identifier: MIT OR Apache-2.0
use Rattle.ffa_notify.proofs.Views.{asked-taken}
use Rattle.ffa_notify.proofs.bitmaps.Bitmaps.clear_asked.Goals as goal

pub returns : goal.returns
returns c =
    asked-taken _ c.self.invariant c.args.self.now c.self.view_is c.args.receiver.0 c.args.flags c.place-first.result c.requires c.place-first.ensures
    c.deref_mut.result.now c.clear_asked.new.items c.deref_mut.ensures.value c.clear_asked.ensures.count c.clear_asked.ensures.cleared
    c.deref_mut-2.result.now c.clear_asked-2.new.items c.deref_mut-2.ensures.value c.clear_asked-2.ensures.count c.clear_asked-2.ensures.cleared
