-- SPDX-License-Identifier: MIT OR Apache-2.0
use Rattle.std.proofs.Common.{◌∙◌, ℕ, ◌<◌, false, length, sym, ap, arith}
use Rattle.std.specs.Prelude.{◌==◌}
use Rattle.std.proofs.lemmas.List.{length-map}
use Rattle.ffa_model.specs.State.{Transaction}
use Rattle.std.specs.Option.{option_copied, option_map_or}
use Rattle.ffa_memshare.specs.Stored.{Pooled, Slot, pool_slot, kept_slot}
use Rattle.ffa_memshare.proofs.PoolKept.{seen-at}
use Rattle.ffa_memshare.proofs.pool.Pool.is_at.Goals as goal

pub returns-in-Some : goal.returns-in-Some
returns-in-Some g c =
    let items = g.O.Room.items c.self.inside.slots in
    let within : c.args.slot < length items = omega (arith, c.requires, ap (λ (p : Pooled). length p.slots) c.self.view_is, length-map items kept_slot) in
    let seen = sym (ap (λ (p : Pooled). pool_slot p.slots c.args.slot) c.self.view_is) ∙ seen-at items c.args.slot c.at.result.now within (c.at.ensures c.at.result.now) in
    ap (λ (s : Slot). option_map_or (λ (x : ℕ × Transaction). x.0 == c.args.handle) s false) (sym (seen ∙ ap kept_slot (sym c.get.ensures ∙ ap option_copied c.in-Some.is)))

pub returns-in-None : goal.returns-in-None
returns-in-None g c =
    let items = g.O.Room.items c.self.inside.slots in
    let within : c.args.slot < length items = omega (arith, c.requires, ap (λ (p : Pooled). length p.slots) c.self.view_is, length-map items kept_slot) in
    let seen = sym (ap (λ (p : Pooled). pool_slot p.slots c.args.slot) c.self.view_is) ∙ seen-at items c.args.slot c.at.result.now within (c.at.ensures c.at.result.now) in
    ap (λ (s : Slot). option_map_or (λ (x : ℕ × Transaction). x.0 == c.args.handle) s false) (sym (seen ∙ ap kept_slot (sym c.get.ensures ∙ ap option_copied c.in-None.is)))
