-- SPDX-License-Identifier: MIT OR Apache-2.0
use Rattle.std.proofs.Common.{◌∙◌, Some, None, sym}
use Rattle.ffa_model.proofs.Accepted.{accepted}
use Rattle.ffa_pages.proofs.First.{first-managers, first-owned}
use Rattle.ffa_pages.proofs.Kept.{entry_of-owned}
use Rattle.ffa_pages.proofs.table.first_page.Goals as goal

pub returns-then-eq : goal.returns-then-eq
returns-then-eq c =
    sym (first-managers c.args.manifest.now.ram_base.0 c.args.page.0 c.owner_of-owner.result.0 c.args.manifest.now.endpoints.items
    c.owner_of-owner.ensures (sym c.eq.ensures ∙ c.if-eq.true))

pub returns-in-None : goal.returns-in-None
returns-in-None c =
    let a = accepted c.args.manifest.now.ram_base.0 c.args.manifest.now.tables.0 c.args.manifest.now.ram_blocks c.args.manifest.now.endpoints.items c.args.manifest.now.accepted in
    sym (first-owned c.args.manifest.now.ram_base.0 c.args.page.0 c.owner_of-owner.result.0 c.place.result None c.args.manifest.now.endpoints.items
    a.apart c.owner_of-owner.ensures (sym c.if-eq.ensures) c.place.ensures c.in-None.ensures)

pub returns-in-Some : goal.returns-in-Some
returns-in-Some c =
    let a = accepted c.args.manifest.now.ram_base.0 c.args.manifest.now.tables.0 c.args.manifest.now.ram_blocks c.args.manifest.now.endpoints.items c.args.manifest.now.accepted in
    entry_of-owned (record { owner = c.owner_of-owner.result; standing = c.of.result }) c.in-Some.own_right None (sym c.if-eq.ensures) c.of.ensures.own_right c.of.ensures.slot
    ∙ sym (first-owned c.args.manifest.now.ram_base.0 c.args.page.0 c.owner_of-owner.result.0 c.place.result (Some c.in-Some.own_right) c.args.manifest.now.endpoints.items
    a.apart c.owner_of-owner.ensures (sym c.if-eq.ensures) c.place.ensures c.in-Some.ensures)
