-- SPDX-License-Identifier: MIT OR Apache-2.0
use Rattle.std.proofs.Common.{◌≡◌, ◌≢◌, ◌∙◌, ℕ, ◌<◌, [], List, false, length, refl, subst, sym, true, ap, arith, inl, inr, get_or-set_other, get_or-set_same, length-set}
use Rattle.std.proofs.lemmas.Bool.{cases_eq, false≢true}
use Rattle.ffa_model.proofs.Runs.{in-run}
use Rattle.ffa_model.specs.Lists.{is_in_run}
use Rattle.ffa_model.specs.Ram.{Ram, page_of, with_page, with_word}
use Rattle.ffa_physmem.proofs.Words.{length-with_word}
use Rattle.ffa_physmem.specs.Moments.{IsBeside}
use Rattle.ffa_machine_tests.proofs.rows.shifting.Shifting.shift.Goals as goal

-- a page in which a word is written keeps its length, and so does any other
whole : (ram : Ram) (page index value : ℕ) → page < length ram.pages → length (page_of ram page) ≡ 4096 → index < 512 → (p : ℕ)
    → length (page_of (with_page ram page (with_word (page_of ram page) index value)) p) ≡ length (page_of ram p)
whole ram page index value inside size within p = elim (cases_eq p page) [
  | inl here ↦
      ap (λ n. length (page_of (with_page ram page (with_word (page_of ram page) index value)) n)) here
      ∙ ap length (get_or-set_same ram.pages page (with_word (page_of ram page) index value) [] inside)
      ∙ length-with_word (page_of ram page) index value (omega (arith, size, within))
      ∙ ap (λ n. length (page_of ram n)) (sym here)
  | inr other ↦ ap length (get_or-set_other ram.pages page p (with_word (page_of ram page) index value) [] other)
]

pub returns-then-has_tx-clause-beside : goal.returns-then-has_tx-clause-beside
returns-then-has_tx-clause-beside c =
    let old : Ram = record { base = c.args.self.now.ram.base.0; pages = c.args.self.now.ram.pages.items } in
    let bytes : List ℕ = with_word (page_of old 46) c.args.self.now.word c.args.self.now.next in
    let there : is_in_run c.args.first.0 c.args.count 46 ≡ true = sym c.has_tx.ensures ∙ c.if-has_tx.true in
    subst (λ (r : Ram). IsBeside old r (is_in_run c.args.first.0 c.args.count)) (sym c.write_word.ensures.ram)
    (record {
      base = refl;
      size = length-set old.pages 46 bytes;
      pages = λ p off.
          get_or-set_other old.pages 46 p bytes []
          (λ same. false≢true (sym off ∙ ap (is_in_run c.args.first.0 c.args.count) same ∙ there));
    })

pub returns-then-has_tx-clause-whole : goal.returns-then-has_tx-clause-whole
returns-then-has_tx-clause-whole c = λ p.
    let old : Ram = record { base = c.args.self.now.ram.base.0; pages = c.args.self.now.ram.pages.items } in
    let (low, high) = in-run c.args.first.0 c.args.count 46 (sym c.has_tx.ensures ∙ c.if-has_tx.true) in
    let inside : 46 < length old.pages = omega (arith, c.requires, low, high) in
    ap (λ (r : Ram). length (page_of r p)) c.write_word.ensures.ram ∙ whole old 46 c.args.self.now.word _ inside c.page.ensures.whole c.args.self.now.place p
