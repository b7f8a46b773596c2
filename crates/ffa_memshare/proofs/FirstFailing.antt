-- SPDX-License-Identifier: MIT OR Apache-2.0
-- The first page that is named and fails a test.
use Rattle.std.proofs.Common.{◌≡◌, ◌∙◌, ℕ, ◌+◌, ◌<◌, Bool, true, false, Some, None, sym, ap, arith, inl, inr}
use Rattle.std.proofs.lemmas.Bool.{cases_eq}
use Rattle.std.specs.Prelude.{◌&&◌, not, filter}
use Rattle.std.specs.Option.{option_map}
use Rattle.ffa_model.specs.About.{first_failing, numbered}
use Rattle.ffa_model.specs.Lists.{listed}
use Rattle.ffa_model.proofs.Finds.{find-filtered, find-listed, find-none}

module _ (test named : ℕ → Bool) (count : ℕ) where
  -- this one, where none before it is named and fails
  pub first-at : (n : ℕ) → n < count → ((k : ℕ) → k < n → (named k && not (test k)) ≡ false) → (named n && not (test n)) ≡ true
      → Some (numbered n) ≡ first_failing test (filter named (listed count (λ p. p)))
  first-at n lt before is =
      ap (option_map numbered) (sym (find-filtered (λ p. not (test p)) named (listed count (λ p. p)) ∙ find-listed (λ p. named p && not (test p)) count n (λ p. p) lt before is))

  pub first-none : ((k : ℕ) → k < count → (named k && not (test k)) ≡ false) → None ≡ first_failing test (filter named (listed count (λ p. p)))
  first-none none =
      ap (option_map numbered) (sym (find-filtered (λ p. not (test p)) named (listed count (λ p. p)) ∙ find-none (λ p. named p && not (test p)) count (λ p. p) none))

-- what no number below another passes, and that one doesn't, none below the next passes
pub none-next : (test : ℕ → Bool) (n : ℕ) → ((k : ℕ) → k < n → test k ≡ false) → test n ≡ false → (k : ℕ) → k < n + 1 → test k ≡ false
none-next test n before here k lt = elim (cases_eq k n) [
  | inl same ↦ ap test same ∙ here
  | inr other ↦ before k (omega (arith, other, lt))
]
