-- SPDX-License-Identifier: MIT OR Apache-2.0
use Rattle.std.proofs.Common.{◌∙◌, ne_eqb}
use Rattle.ffa_model.specs.Identifiers.{manager}
use Rattle.ffa_pages.specs.declared.page.KeptPage.{KeptPage}
use Rattle.ffa_pages.proofs.Kept.{entry_of-owned}
use Rattle.ffa_pages.proofs.table.PageTable.give.Goals as goal

pub returns : goal.returns
returns g c =
    let page : KeptPage = record { owner = c.args.owner; standing = c.of-standing.result } in
    let kept = entry_of-owned page c.args.own_right c.slot_of-slot.result (ne_eqb c.args.owner.0 manager c.requires.endpoint) c.of-standing.ensures.own_right c.of-standing.ensures.slot in
    c.put.ensures ∙ cc
