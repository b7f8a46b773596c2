-- SPDX-License-Identifier: MIT OR Apache-2.0
use Rattle.std.proofs.Common.{◌∙◌, ap, find, map, refl, rules, tests, option_map, bytes_eq}
use Rattle.std.proofs.lemmas.Iterator.{YieldsList-from_slice}
use Rattle.std.proofs.lemmas.Iterator.Search.{find_from_yields_List}
use Rattle.ffa_model.specs.Rows.{told}
use Rattle.ffa_model.proofs.Finds.{find-map, option-twice}
use Rattle.play_trace.specs.Calls.{row_named}
use Rattle.play_trace.proofs.function.row_named.Goals as goal

pub returns : goal.returns
unfolding row_named
returns c =
    let name = c.args.name.now in
    let all = c.iter.result.rest.now in
    let found = find_from_yields_List (λ row. bytes_eq (told row).name name) _ _ c.find.result c.find.ensures.ran (YieldsList-from_slice all refl) (λ x b q k. search (rules, tests)) in
    option-twice (λ row. row.now) told c.find.result
    ∙ ap (option_map told) found
    ∙ find-map told (λ row. bytes_eq row.name name) all
    ∙ ap (λ those. find (λ row. bytes_eq row.name name) (map told those)) c.iter.ensures.rest
