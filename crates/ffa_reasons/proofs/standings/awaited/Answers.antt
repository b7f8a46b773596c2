-- SPDX-License-Identifier: MIT OR Apache-2.0
use Rattle.std.proofs.Common.{◌≡◌, ◌∙◌, ℕ, Some, false, sym, ap, arith, inl, inr}
use Rattle.std.proofs.lemmas.Bool.{cases_eq}
use Rattle.std.specs.Option.{option_map}
use Rattle.ffa_model.specs.Identifiers.{identifier}
use Rattle.ffa_model.proofs.Finds.{find-listed, find-none}
use Rattle.ffa_playable.specs.Standing.{endpoint_of, is_asked_by}
use Rattle.ffa_reasons.proofs.standings.awaited.Goals as goal

pub returns-then-is_asked_by : goal.returns-then-is_asked_by
returns-then-is_asked_by c =
    let chain = c.args.chain.now in
    let sender = c.args.sender.0 in
    let works = ap (is_asked_by chain sender) (sym c.at-receiver.ensures) ∙ sym c.is_asked_by.ensures ∙ c.if-is_asked_by.true in
    ap (λ (f : ℕ). Some (endpoint_of f)) c.at-receiver.ensures
    ∙ ap (option_map endpoint_of)
    (sym (find-listed (is_asked_by chain sender) c.args.endpoints c.loop-place.place identifier c.loop-place-test.true c.loop-place.invariant works))

pub returns : goal.returns
returns c =
    ap (option_map endpoint_of)
    (sym (find-none (is_asked_by c.args.chain.now c.args.sender.0) c.args.endpoints identifier (λ k lt. c.loop-place.invariant k (let end = c.loop-place-test.false in omega arith))))

pub loop-place-preserved : goal.loop-place-preserved
loop-place-preserved c = λ k lt.
    let works = is_asked_by c.args.chain.now c.args.sender.0 in
    let here : works (identifier c.loop-place.place) ≡ false =
    ap works (sym c.at-receiver.ensures) ∙ sym c.is_asked_by.ensures ∙ c.if-is_asked_by.false in
    elim (cases_eq k c.loop-place.place) [
      | inl same ↦ ap (λ (n : ℕ). works (identifier n)) same ∙ here
      | inr other ↦ c.loop-place.invariant k (omega (arith, other, lt))
    ]
