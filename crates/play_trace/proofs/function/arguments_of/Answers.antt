-- SPDX-License-Identifier: MIT OR Apache-2.0
use Rattle.std.proofs.Common.{◌≡◌, ◌∙◌, ℕ, List, Option, ap, find, map, refl, rules, sym, tests, ◌==◌, option_map, Bor}
use Rattle.std.proofs.lemmas.Iterator.{YieldsList-from_slice}
use Rattle.std.proofs.lemmas.Iterator.Search.{find_from_yields_List}
use Rattle.ffa_model.proofs.Finds.{find-map, option-twice}
use Rattle.play_trace.specs.Calls.{Argument, argument_rows, arguments_of}
use Rattle.play_trace.proofs.function.arguments_of.Goals as goal

abbrev seen : ℕ × Bor (List Argument) → ℕ × List Argument
seen row = (row.0, row.1.now)

found : (function : ℕ) (all : List (ℕ × Bor (List Argument))) (o : Option (Bor (ℕ × Bor (List Argument))))
    → option_map (λ row. row.now) o ≡ find (λ row. (seen row).0 == function) all → map seen all ≡ argument_rows
    → option_map (λ row. row.now.1.now) o ≡ arguments_of function
unfolding arguments_of
found function all o is are =
    option-twice (λ row. row.now) (λ row. row.1.now) o
    ∙ ap (option_map (λ row. row.1.now)) is
    ∙ option-twice seen (λ row. row.1) (find (λ row. (seen row).0 == function) all)
    ∙ ap (option_map (λ row. row.1)) (find-map seen (λ row. row.0 == function) all)
    ∙ ap (λ those. option_map (λ row. row.1) (find (λ row. row.0 == function) those)) are

pub returns-in-Some : goal.returns-in-Some
returns-in-Some c =
    let f = c.args.function in
    let all = c.iter.result.rest.now in
    let is = find_from_yields_List (λ row. (seen row).0 == f) _ _ c.find.result c.find.ensures.ran (YieldsList-from_slice all refl) (λ x b q k. search (rules, tests)) in
    sym (ap (option_map (λ row. row.now.1.now)) c.in-Some.is)
    ∙ found f all c.find.result is (ap (map seen) c.iter.ensures.rest)

pub returns-in-None : goal.returns-in-None
returns-in-None c =
    let f = c.args.function in
    let all = c.iter.result.rest.now in
    let is = find_from_yields_List (λ row. (seen row).0 == f) _ _ c.find.result c.find.ensures.ran (YieldsList-from_slice all refl) (λ x b q k. search (rules, tests)) in
    sym (ap (option_map (λ row. row.now.1.now)) c.in-None.is)
    ∙ found f all c.find.result is (ap (map seen) c.iter.ensures.rest)
