-- SPDX-License-Identifier: MIT OR Apache-2.0
use Rattle.std.proofs.Common.{◌≡◌, ◌∙◌, ℕ, ◌++◌, [], ◌∷◌, true, sym, subst, arith}
use Rattle.std.specs.Prelude.{All}
use Rattle.std.proofs.lemmas.List.Elements.{All-push}
use Rattle.ffa_model.specs.Agreement.{root}
use Rattle.ffa_model.specs.Walk.{is_page_address}
use Rattle.ffa_model.proofs.Listed.{listed-more}
use Rattle.ffa_spmc.proofs.manager.Manager.roots.Goals as goal

pub loop-place-preserved : goal.loop-place-preserved
loop-place-preserved g c = record {
  len = omega (arith, c.push.ensures.len, c.loop-place.invariant.len);
  value = c.push.ensures.items ∙ (λ i. c.loop-place.invariant.value i ++ c.root_at.ensures.value i ∷ []) ∙ sym (listed-more c.loop-place.place (root c.args.self.now.state));
  pages = subst (All (λ (address : ℕ). is_page_address c.args.self.now.ram address ≡ true)) (sym c.push.ensures.items)
      (All-push (λ (address : ℕ). is_page_address c.args.self.now.ram address ≡ true) c.loop-place.roots.items _ c.loop-place.invariant.pages c.root_at.ensures.page);
}
