-- SPDX-License-Identifier: MIT OR Apache-2.0
use Rattle.std.proofs.Common.{◌≡◌, ◌∙◌, ap, find, map, refl, rules, tests}
use Rattle.std.specs.Option.{option_map}
use Rattle.std.proofs.lemmas.Iterator.{YieldsList-from_slice}
use Rattle.std.proofs.lemmas.Iterator.Search.{find_from_yields_List}
use Rattle.ffa_model.specs.Rows.{is_row_of, row_of, told}
use Rattle.ffa_model.proofs.Finds.{find-map, option-twice}
use Rattle.ffa_abi.proofs.names.call_row.Goals as goal

pub returns : goal.returns
unfolding row_of
returns c =
    let w0 = c.args.function in
    let all = c.iter.result.rest.now in
    let found = find_from_yields_List (λ row. is_row_of w0 (told row)) _ _ c.find.result c.find.ensures.ran (YieldsList-from_slice all refl) (λ x b q k. search (rules, tests)) in
    option-twice (λ row. row.now) told c.find.result
    ∙ ap (option_map told) found
    ∙ find-map told (is_row_of w0) all
    ∙ ap (λ those. find (is_row_of w0) (map told those)) c.iter.ensures.rest
