-- SPDX-License-Identifier: MIT OR Apache-2.0
use Rattle.std.proofs.Common.{◌∙◌, List, Option, ap, slice_set}
use Rattle.std.proofs.lemmas.List.{map-set}
use Rattle.ffa_pages.specs.Entry.{Entry}
use Rattle.ffa_pages.specs.Stored.{entry_of, entries_of}
use Rattle.ffa_pages.proofs.table.PageTable.put.Goals as goal

pub returns : goal.returns
returns g c =
    ap entries_of (g.met.P.Room.one_item c.self.inside.pages c.args.page.0 c.args.kept)
    ∙ map-set entry_of (g.P.Room.items c.self.inside.pages) c.args.page.0 c.args.kept
    ∙ ap (λ (table : List (Option Entry)). slice_set table c.args.page.0 (entry_of c.args.kept)) c.self.view_is
