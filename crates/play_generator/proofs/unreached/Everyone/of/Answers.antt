-- SPDX-License-Identifier: MIT OR Apache-2.0
use Rattle.std.proofs.Common.{◌≡◌, ◌∙◌, ℕ, List, ◌==◌, ap, arith, bit_and, drop, length, min, refl, sym, take, [], ◌∷◌}
use Rattle.std.proofs.Math.Seq.{take-length}
use Rattle.std.proofs.lemmas.List.{length-drop}
use Rattle.std.specs.List.{list_all}
use Rattle.std.proofs.lemmas.Bool.Decides.{nat_tests}
use Rattle.std.proofs.lemmas.Nat.Bits.{and_pow}
use Rattle.ffa_model.specs.Bits.{is_set}
use Rattle.ffa_model.specs.declared.endpoint.Endpoint.{Endpoint}
use Rattle.play_generator.specs.Unreached.{have_all}
use Rattle.play_generator.proofs.unreached.Everyone.of.Goals as goal

first : (n : ℕ) → (bit_and n 1 == 1) ≡ is_set 0 n
first n = let e = and_pow n 0 in rw e (grind (arith, nat_tests))

second : (n : ℕ) → (bit_and n 2 == 2) ≡ is_set 1 n
second n = let e = and_pow n 1 in rw e (grind (arith, nat_tests))

third : (n : ℕ) → (bit_and n 4 == 4) ≡ is_set 2 n
third n = let e = and_pow n 2 in rw e (grind (arith, nat_tests))

-- a word has the one bit of a number just where that bit is set
all-set : (bit number : ℕ) → ((n : ℕ) → (bit_and n number == number) ≡ is_set bit n) → (endpoints : List Endpoint)
    → list_all (λ (e : Endpoint). bit_and e.properties.0 number == number) endpoints ≡ have_all bit endpoints
all-set bit number same endpoints i = list_all (λ (e : Endpoint). same e.properties.0 i) endpoints

pub returns-clause-sends : goal.returns-clause-sends
returns-clause-sends c =
    c.all_have.ensures
    ∙ ap (λ all. list_all (λ (e : Endpoint). bit_and e.properties.0 2 == 2) all) c.as_slice-all.ensures.value
    ∙ all-set 1 2 second c.args.manifest.now.endpoints.items

without-first : (all : List Endpoint) → drop (min (length all) 1) all ≡ drop 1 all
without-first [] = refl
without-first (e ∷ all) = let one : min (length (e ∷ all)) 1 ≡ 1 = omega arith in ap (λ n. drop n (e ∷ all)) one

pub returns-clause-receives : goal.returns-clause-receives
returns-clause-receives c =
    let all = c.as_slice-all.result.now in
    let n = c.min.result in
    let whole = ap (λ k. take k (drop n all)) (sym (length-drop n all)) ∙ take-length (drop n all) in
    let rest = whole ∙ ap (λ k. drop k all) c.min.ensures ∙ without-first all ∙ ap (drop 1) c.as_slice-all.ensures.value in
    c.all_have-2.ensures
    ∙ ap (λ some. list_all (λ (e : Endpoint). bit_and e.properties.0 1 == 1) some) rest
    ∙ all-set 0 1 first (drop 1 c.args.manifest.now.endpoints.items)

pub returns-clause-takes : goal.returns-clause-takes
returns-clause-takes c =
    c.all_have-3.ensures
    ∙ ap (λ all. list_all (λ (e : Endpoint). bit_and e.properties.0 4 == 4) all) c.as_slice-all.ensures.value
    ∙ all-set 2 4 third c.args.manifest.now.endpoints.items
