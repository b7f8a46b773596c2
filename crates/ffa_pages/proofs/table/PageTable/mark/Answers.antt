-- SPDX-License-Identifier: MIT OR Apache-2.0
use Rattle.std.proofs.Common.{◌∙◌, Option, ap, slice_set, option_map}
use Rattle.ffa_pages.specs.Entry.{Entry}
use Rattle.ffa_pages.proofs.Kept.{entry_of-marked}
use Rattle.ffa_pages.proofs.table.PageTable.mark.Goals as goal

pub returns-in-Some : goal.returns-in-Some
returns-in-Some g c =
    let marked : Entry → Entry = λ e. record e { slot = c.args.slot } in
    c.put.ensures
    ∙ ap (λ (o : Option Entry). slice_set c.args.self.now c.args.page.0 o)
    (entry_of-marked c.entry-kept.result c.in-Some.standing c.of-standing.result c.args.slot c.in-Some.ensures (c.of-standing.ensures.own_right ∙ c.own_right.ensures) c.of-standing.ensures.slot)
    ∙ ap (λ (o : Option Entry). slice_set c.args.self.now c.args.page.0 (option_map marked o)) c.entry-kept.ensures
