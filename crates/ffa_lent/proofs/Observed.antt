-- SPDX-License-Identifier: MIT OR Apache-2.0
-- Pages as they are seen: a copy in place of each frame that is observed.
use Rattle.std.proofs.Common.{◌≡◌, ◌∙◌, ℕ, zero, suc, ◌+◌, ◌-◌, ◌<◌, ◌≤◌, true, cond, List, [], ◌∷◌, length, get_or, ap, arith, inl, inr, refl}
use Rattle.std.proofs.lemmas.Bool.{cases_Bool}
use Rattle.ffa_model.specs.Lists.{is_in_run, map_at}
use Rattle.ffa_model.proofs.Runs.{in-run}
use Rattle.ffa_lent.specs.Beneath.{get_or-map_at, seen-off, seen_by}

-- ---- a list that is seen otherwise

pub length-same : (xs : List (List ℕ)) (f : ℕ → List ℕ → List ℕ) (p : ℕ) → (p < length xs → length (f p (get_or xs p [])) ≡ length (get_or xs p []))
    → length (get_or (map_at f xs) p []) ≡ length (get_or xs p [])
length-same [] f p same = refl
length-same (x ∷ xs) f zero same = same (omega arith)
length-same (x ∷ xs) f (suc p) same = length-same xs (λ q. f (suc q)) p (λ lt. same (omega arith))

-- ---- one page, by whether it is observed

seen-in : (copies : List (List ℕ)) (first count p : ℕ) (b : List ℕ) → is_in_run first count p ≡ true → seen_by copies first count p b ≡ get_or copies (p - first) []
seen-in copies first count p b at = ap (λ c. cond c (get_or copies (p - first) []) b) at

-- ---- to observe

module _ (frames : List (List ℕ)) (copies : List (List ℕ)) (first count : ℕ) (within : first + count ≤ length frames) where
  -- the bytes of frame p, by its place among the copies
  pub frame-of : (p : ℕ) → is_in_run first count p ≡ true → get_or frames (first + (p - first)) [] ≡ get_or frames p []
  frame-of p at =
      let (low, _) = in-run first count p at in
      let back : first + (p - first) ≡ p = omega (arith, low) in
      ap (λ n. get_or frames n []) back

  -- a page with a copy is seen as that
  pub observed-in : (p : ℕ) → is_in_run first count p ≡ true → get_or (map_at (seen_by copies first count) frames) p [] ≡ get_or copies (p - first) []
  observed-in p at =
      let (_, high) = in-run first count p at in
      get_or-map_at (seen_by copies first count) frames p (omega (arith, high, within)) ∙ seen-in copies first count p (get_or frames p []) at

-- where each copy has as many bytes as its frame, so has each page
pub observed-whole : (frames copies : List (List ℕ)) (first count : ℕ)
    → ((k : ℕ) → k < count → first + k < length frames → length (get_or copies k []) ≡ length (get_or frames (first + k) [])) → (p : ℕ)
    → length (get_or (map_at (seen_by copies first count) frames) p []) ≡ length (get_or frames p [])
observed-whole frames copies first count whole p = length-same frames (seen_by copies first count) p (λ lt. elim (cases_Bool (is_in_run first count p)) [
  | inl at ↦
      (let (low, high) = in-run first count p at in
      let back : first + (p - first) ≡ p = omega (arith, low) in
      ap length (seen-in copies first count p (get_or frames p []) at) ∙ whole (p - first) (omega (arith, low, high)) (omega (arith, back, lt))
      ∙ ap (λ n. length (get_or frames n [])) back)
  | inr off ↦ ap length (seen-off copies first count p (get_or frames p []) off)
])
