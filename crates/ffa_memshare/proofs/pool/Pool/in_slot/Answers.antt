-- SPDX-License-Identifier: MIT OR Apache-2.0
use Rattle.std.proofs.Common.{◌∙◌, ◌<◌, length, sym, ap, arith}
use Rattle.ffa_memshare.specs.Stored.{Pooled, pool_slot}
use Rattle.ffa_memshare.proofs.PoolKept.{seen-at, seen-none, seen-some}
use Rattle.ffa_memshare.proofs.pool.Pool.in_slot.Goals as goal

pub returns-clause-some : goal.returns-clause-some
returns-clause-some g c =
    let items = g.O.Room.items c.self.inside.slots in
    let within : c.args.slot < length items = omega (arith, c.if-slot-count.false, c.count.ensures) in
    let seen = sym (ap (λ (p : Pooled). pool_slot p.slots c.args.slot) c.self.view_is) ∙ seen-at items c.args.slot c.at.result.now within (c.at.ensures c.at.result.now) in
    seen-some c.args.self.now.slots c.args.slot c.at.result.now c.get.result seen c.get.ensures

pub returns-clause-none : goal.returns-clause-none
returns-clause-none g c =
    let items = g.O.Room.items c.self.inside.slots in
    let within : c.args.slot < length items = omega (arith, c.if-slot-count.false, c.count.ensures) in
    let seen = sym (ap (λ (p : Pooled). pool_slot p.slots c.args.slot) c.self.view_is) ∙ seen-at items c.args.slot c.at.result.now within (c.at.ensures c.at.result.now) in
    seen-none c.args.self.now.slots c.args.slot c.at.result.now c.get.result seen c.get.ensures
