-- SPDX-License-Identifier: MIT OR Apache-2.0
-- Bytes that are copied page by page.
use Rattle.std.proofs.Common.{◌≡◌, ◌∙◌, ◌⊎◌, ℕ, suc, ◌+◌, ◌*◌, ◌-◌, ◌<◌, ◌≤◌, List, ◌++◌, length, take, drop, sym, ap, arith, inl, inr}
use Rattle.std.specs.List.{flat_map}
use Rattle.std.proofs.lemmas.List.{drop-drop, drop-take, length-take, take-append-le, take-take, take_all}
use Rattle.ffa_model.specs.Lists.{run}
use Rattle.ffa_model.specs.Ram.{Ram, page_of, with_bytes, with_page}
use Rattle.ffa_rxtx.specs.Parts.{with_run}
use Rattle.ffa_rxtx.proofs.Runs.{from-page}

module _ (page : ℕ → List ℕ) where
  -- the next 4096 of the first bytes, or as many as are left
  pub next-piece : (first n i size rest count : ℕ) → i < n → ((k : ℕ) → k < i + 1 → length (page (first + k)) ≡ 4096) → size ≡ 4096 * i + rest
      → ((rest < 4096) × (count ≡ rest)) ⊎ ((4096 ≤ rest) × (count ≡ 4096))
      → take 4096 (drop (4096 * i) (take size (flat_map page (run first n)))) ≡ take count (page (first + i))
  next-piece first n i size rest count lt whole is which =
      let (more, from) = from-page page n (λ k. first + k) i lt (λ k lt_k. whole k (omega (arith, lt_k))) in
      ap (λ m. take 4096 (drop (4096 * i) (take m (flat_map page (run first n))))) is
      ∙ ap (take 4096) (drop-take (4096 * i) rest (flat_map page (run first n)) ∙ ap (take rest) from)
      ∙ of more (whole i (omega arith)) which
    where
      of : (more : List ℕ) → length (page (first + i)) ≡ 4096 → ((rest < 4096) × (count ≡ rest)) ⊎ ((4096 ≤ rest) × (count ≡ 4096))
          → take 4096 (take rest (page (first + i) ++ more)) ≡ take count (page (first + i))
      of more one (inl (less, left)) =
          let cut = length-take rest (page (first + i) ++ more) in
          take_all 4096 (take rest (page (first + i) ++ more)) (omega (arith, cut, less))
          ∙ take-append-le rest (page (first + i)) more (omega (arith, one, less)) ∙ ap (λ k. take k (page (first + i))) (sym left)
      of more one (inr (full, all)) =
          take-take 4096 rest (page (first + i) ++ more) full
          ∙ take-append-le 4096 (page (first + i)) more (omega (arith, one)) ∙ ap (λ k. take k (page (first + i))) (sym all)

-- one page more is copied
pub one-more : (m to i count : ℕ) (msg piece : List ℕ) (now next last : Ram) → i < m
    → with_run (m - i) now (to + i) (drop (4096 * i) msg) ≡ last
    → take 4096 (drop (4096 * i) msg) ≡ piece → length piece ≡ count
    → next ≡ with_page now (to + i) (piece ++ drop count (page_of now (to + i)))
    → with_run (m - (i + 1)) next (to + (i + 1)) (drop (4096 * (i + 1)) msg) ≡ last
one-more m to i count msg piece now next last lt before is size copied =
    let left : suc (m - (i + 1)) ≡ m - i = omega (arith, lt) in
    let place : to + (i + 1) ≡ (to + i) + 1 = omega arith in
    let behind : 4096 * (i + 1) ≡ 4096 * i + 4096 = omega arith in
    let rest : drop (4096 * (i + 1)) msg ≡ drop 4096 (drop (4096 * i) msg) = ap (λ k. drop k msg) behind ∙ sym (drop-drop 4096 (4096 * i) msg) in
    let put : next ≡ with_page now (to + i) (with_bytes (page_of now (to + i)) 0 (take 4096 (drop (4096 * i) msg))) =
    copied ∙ ap (λ k. with_page now (to + i) (piece ++ drop k (page_of now (to + i)))) (sym size)
    ∙ ap (λ (bytes : List ℕ). with_page now (to + i) (bytes ++ drop (length bytes) (page_of now (to + i)))) (sym is) in
    (λ j. with_run (m - (i + 1)) (put j) (place j) (rest j))
    ∙ ap (λ k. with_run k now (to + i) (drop (4096 * i) msg)) left
    ∙ before
