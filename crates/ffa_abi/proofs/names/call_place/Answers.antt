-- SPDX-License-Identifier: MIT OR Apache-2.0
use Rattle.std.proofs.Common.{◌≡◌, ◌∙◌, ◌≤◌, ap, sym, subst, length, map, refl, rules, tests}
use Rattle.std.specs.Prelude.{position}
use Rattle.std.specs.List.{position_or_len}
use Rattle.std.specs.Option.{unwrap_or}
use Rattle.std.proofs.lemmas.Iterator.{YieldsList-from_slice}
use Rattle.std.proofs.lemmas.Iterator.Search.{position_from_yields_List}
use Rattle.ffa_model.specs.Rows.{is_row_of, place_in_rows, rows, told}
use Rattle.ffa_model.proofs.Finds.{place-inside, place-map, place-or-behind}
use Rattle.ffa_abi.proofs.names.call_place.Goals.{After-unwrap_or}
use Rattle.ffa_abi.proofs.names.call_place.Goals as goal

placed : (c : After-unwrap_or) → c.unwrap_or.result ≡ position_or_len (is_row_of c.args.function) rows
placed c =
    let w0 = c.args.function in
    let all = c.iter.result.rest.now in
    let found = position_from_yields_List (λ row. is_row_of w0 (told row)) _ _ c.position.result c.position.ensures.ran (YieldsList-from_slice all refl) (λ x b q k. search (rules, tests)) in
    let many = sym (ap length c.iter.ensures.rest) in
    c.unwrap_or.ensures
    ∙ ap (λ o. unwrap_or o (length rows)) found
    ∙ ap (unwrap_or (position (λ row. is_row_of w0 (told row)) all)) many
    ∙ place-or-behind (λ row. is_row_of w0 (told row)) all
    ∙ place-map told (is_row_of w0) all
    ∙ ap (λ those. position_or_len (is_row_of w0) (map told those)) c.iter.ensures.rest

pub returns-clause-place : goal.returns-clause-place
unfolding place_in_rows
returns-clause-place c = placed c

pub returns-clause-few : goal.returns-clause-few
returns-clause-few c = subst (λ n. n ≤ length rows) (sym (placed c)) (place-inside (is_row_of c.args.function) rows)
