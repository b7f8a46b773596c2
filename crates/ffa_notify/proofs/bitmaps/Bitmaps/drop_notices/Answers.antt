-- SPDX-License-Identifier: MIT OR Apache-2.0
use Rattle.ffa_notify.proofs.Views.{notices-dropped}
use Rattle.ffa_notify.proofs.bitmaps.Bitmaps.drop_notices.Goals as goal

pub returns : goal.returns
returns c =
    notices-dropped _ c.self.invariant c.args.self.now c.self.view_is c.deref_mut.result.now c.clear.new.items c.deref_mut.ensures.value c.clear.ensures
