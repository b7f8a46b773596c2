-- SPDX-License-Identifier: MIT OR Apache-2.0
use Rattle.std.proofs.Common.{true}
use Rattle.ffa_notify.proofs.Views.{has-changed, has-within}
use Rattle.ffa_notify.proofs.bitmaps.Bitmaps.give.Goals as goal

pub bounds-deref_mut-place : goal.bounds-deref_mut-place
bounds-deref_mut-place c =
    has-within _ c.self.invariant c.args.self.now c.self.view_is c.args.endpoint.0 c.requires c.deref_mut.result.now c.deref_mut.ensures.value c.place.result c.place.ensures

pub returns : goal.returns
returns c =
    has-changed _ c.self.invariant c.args.self.now c.self.view_is c.args.endpoint.0 c.requires c.deref_mut.result.now c.deref_mut.ensures.value c.place.result c.place.ensures true
