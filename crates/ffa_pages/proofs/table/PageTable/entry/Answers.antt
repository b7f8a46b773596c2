-- SPDX-License-Identifier: MIT OR Apache-2.0
use Rattle.std.proofs.Common.{◌≡◌, ◌∙◌, ◌<◌, length, List, Option, None, ap, sym, arith}
use Rattle.std.proofs.lemmas.List.{get_or-map, length-map}
use Rattle.ffa_pages.specs.Entry.{Entry, entry_at}
use Rattle.ffa_pages.specs.Stored.{entry_of}
use Rattle.ffa_pages.proofs.table.PageTable.entry.Goals as goal

pub returns : goal.returns
returns g c =
    let pages = g.P.Room.items c.self.inside.pages in
    let page = c.args.page.0 in
    let count : length c.args.self.now ≡ length pages = ap length (sym c.self.view_is) ∙ length-map pages entry_of in
    let inside : page < length pages = omega (arith, count) in
    ap entry_of (c.at.ensures c.at.result.now)
    ∙ sym (get_or-map entry_of pages page c.at.result.now None inside)
    ∙ ap (λ (table : List (Option Entry)). entry_at table page) c.self.view_is
