-- SPDX-License-Identifier: MIT OR Apache-2.0
use Rattle.std.proofs.Common.{◌≡◌, ◌∙◌, ℕ, ◌+◌, ◌*◌, ◌%◌, ◌^◌, ◌<◌, ◌≤◌, ap, sym, Option, is_some, if◌then◌else◌}
use Rattle.ffa_model.specs.Descriptor.{page_word}
use Rattle.ffa_model.specs.declared.rights.Rights.{Rights}
use Rattle.ffa_physmem.proofs.Moments.{Only-map}
use Rattle.ffa_stage2.proofs.Moments.{one-same}
use Rattle.ffa_stage2.proofs.PageRuns.{IsFilled-same, IsFilling-same, right-words, right-fits}
use Rattle.ffa_stage2.proofs.blocks.fill.Goals as goal
use Rattle.ffa_stage2.proofs.blocks.fill.Goals.{then-is_some, else-is_some}

pub write_words-requires-clause-fits : goal.write_words-requires-clause-fits
write_words-requires-clause-fits g c = right-fits c.args.place.now.address c.args.right _ c.requires.place.aligned c.requires.place.within c.leaf.ensures

words : (address : ℕ) (right : Option Rights) (first step : ℕ) → address % 0x200000 ≡ 0 → address + 0x200000 ≤ 2 ^ 32 → first ≡ page_word address right
    → step ≡ (if is_some right then 4096 else 0) → (j : ℕ) → j < 512 → first + step * j ≡ page_word (address + 4096 * j) right
words address right first step aligned within is steps j hj = right-words address right first step j aligned within is steps hj

pub returns-clause-filled : goal.returns-clause-filled
returns-clause-filled g c =
    let step : c.if-is_some.step ≡ (if is_some c.args.right then 4096 else 0) = elim c.if-is_some.branch [
      | then-is_some w ↦ w.step-is ∙ ap (λ b. if b then 4096 else 0) (sym (sym c.is_some.ensures ∙ w.if-is_some.true))
      | else-is_some w ↦ w.step-is ∙ ap (λ b. if b then 4096 else 0) (sym (sym c.is_some.ensures ∙ w.if-is_some.false))
    ] in
    let place = c.requires.place in
    IsFilled-same _ _ c.args.place.now.table.0 c.args.from c.args.to _ (λ j. page_word (c.args.place.now.address + 4096 * j) c.args.right) c.requires.to c.write_words.ensures.filled
    (words c.args.place.now.address c.args.right c.leaf.result c.if-is_some.step place.aligned place.within c.leaf.ensures step)

pub returns-clause-steps : goal.returns-clause-steps
returns-clause-steps g c =
    let step : c.if-is_some.step ≡ (if is_some c.args.right then 4096 else 0) = elim c.if-is_some.branch [
      | then-is_some w ↦ w.step-is ∙ ap (λ b. if b then 4096 else 0) (sym (sym c.is_some.ensures ∙ w.if-is_some.true))
      | else-is_some w ↦ w.step-is ∙ ap (λ b. if b then 4096 else 0) (sym (sym c.is_some.ensures ∙ w.if-is_some.false))
    ] in
    let place = c.requires.place in
    Only-map c.write_words.ensures.steps
    (λ h s some. IsFilling-same _ s.after c.args.place.now.table.0 c.args.from c.args.to _ (λ j. page_word (c.args.place.now.address + 4096 * j) c.args.right) c.requires.to some
    (words c.args.place.now.address c.args.right c.leaf.result c.if-is_some.step place.aligned place.within c.leaf.ensures step))

pub returns-clause-orders : goal.returns-clause-orders
returns-clause-orders g c =
    let step : c.if-is_some.step ≡ (if is_some c.args.right then 4096 else 0) = elim c.if-is_some.branch [
      | then-is_some w ↦ w.step-is ∙ ap (λ b. if b then 4096 else 0) (sym (sym c.is_some.ensures ∙ w.if-is_some.true))
      | else-is_some w ↦ w.step-is ∙ ap (λ b. if b then 4096 else 0) (sym (sym c.is_some.ensures ∙ w.if-is_some.false))
    ] in
    let place = c.requires.place in
    Only-map c.write_words.ensures.orders
    (λ h s its. one-same _ c.args.place.now.table.0 c.args.from c.args.to _ (λ j. page_word (c.args.place.now.address + 4096 * j) c.args.right) s c.requires.to its
    (words c.args.place.now.address c.args.right c.leaf.result c.if-is_some.step place.aligned place.within c.leaf.ensures step))

pub returns-clause-few : goal.returns-clause-few
returns-clause-few g c = c.write_words.ensures.few
