-- SPDX-License-Identifier: MIT OR Apache-2.0
use Rattle.ffa_notify.proofs.Views.{taken-away}
use Rattle.ffa_notify.proofs.bitmaps.Bitmaps.take_away.Goals as goal

pub returns : goal.returns
returns c =
    taken-away _ c.self.invariant c.args.self.now c.self.view_is c.deref_mut.result.now c.deref_mut.ensures.value
    c.deref_mut-2.result.now c.clear_front.new.words c.deref_mut-2.ensures.value c.clear_front.ensures.count c.clear_front.ensures.cleared
