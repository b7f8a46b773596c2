-- SPDX-License-Identifier: MIT OR Apache-2.0
-- Pages in which somebody has a buffer, of some that lie in a row.
use Rattle.std.proofs.Common.{◌≡◌, ◌∙◌, ℕ, suc, ◌<◌, ◌≤◌, Bool, true, false, List, [], ◌∷◌, length, Option, None, refl, ap, arith, inl, inr, ◌↔◌, IsTrue, MatchBool, option_map}
use Rattle.std.specs.List.{AllWithin, HoldsAt}
use Rattle.std.proofs.lemmas.Bool.{false≢true, or_cases}
use Rattle.std.proofs.lemmas.List.{get_or-map, length-map}
use Rattle.std.proofs.lemmas.List.Folds.{list_any_at}
use Rattle.ffa_model.specs.MemorySend.{is_buffer}
use Rattle.ffa_model.specs.State.{Buffers}
use Rattle.ffa_rxtx.specs.declared.buffers.Mapped.{Mapped}
use Rattle.ffa_rxtx.specs.Parts.{have_page}
use Rattle.ffa_rxtx.specs.Stored.{buffers_of, list_of}

module _ (first end : ℕ) where
  -- one of these pages passes a test
  abbrev pub IsAnyPage : (ℕ → Bool) → Type 0
  IsAnyPage test = (p : ℕ) × (first ≤ p) × (p < end) × (test p ≡ true)

  -- one of these pages is an endpoint's buffer
  abbrev pub HasPage : Option Mapped → Type 0
  HasPage own = IsAnyPage (have_page (option_map buffers_of own))

  found : (all : List (Option Mapped)) (k : ℕ) → k < length all → HoldsAt HasPage all k → IsAnyPage (is_buffer (list_of all))
  found all k lt here =
      let (p, low, high, is) = here None in (
        p,
        low,
        high,
        list_any_at (λ (own : Option Buffers). have_page own p) (list_of all) k None (omega (arith, lt, length-map all (option_map buffers_of)))
            (ap (λ (own : Option Buffers). have_page own p) (get_or-map (option_map buffers_of) all k None None lt) ∙ is),
      )

  away : (all : List (Option Mapped)) → AllWithin (λ own. HasPage own → ⊥) all 0 (length all) → (p : ℕ) → first ≤ p → p < end → is_buffer (list_of all) p ≡ true → ⊥
  away [] none p low high is = false≢true is
  away (own ∷ all) none p low high is = elim (or_cases (have_page (option_map buffers_of own) p) (is_buffer (list_of all) p) is) [
    | inl here ↦ none 0 None (omega arith) (omega arith) (p, low, high, here)
    | inr there ↦ away all (λ k d from to. none (suc k) d (omega arith) (omega arith)) p low high there
  ]

  -- somebody's are found, or none of anybody's
  pub any-buffer : (all : List (Option Mapped)) (any : Bool)
      → MatchBool any ((k : ℕ) × (k < length all) × HoldsAt HasPage all k) (AllWithin (λ own. HasPage own → ⊥) all 0 (length all))
      → IsTrue any ↔ IsAnyPage (is_buffer (list_of all))
  any-buffer all true (k, lt, here) = (λ is. found all k lt here, λ its. refl)
  any-buffer all false none = (λ is. absurd (false≢true is), λ its. (let (p, low, high, is) = its in absurd (away all none p low high is)))
