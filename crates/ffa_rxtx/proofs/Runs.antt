-- SPDX-License-Identifier: MIT OR Apache-2.0
-- Bytes of pages in a row: how many they are, which is at a place, and how others are written there.
use Rattle.std.proofs.Common.{◌≡◌, ◌∙◌, ℕ, zero, suc, ◌+◌, ◌*◌, ◌/◌, ◌%◌, ◌<◌, ◌≤◌, List, [], ◌++◌, length, take, drop, get_or, refl, sym, ap, arith, length-append, flat_map}
use Rattle.std.proofs.lemmas.List.{drop_all, get_or-drop, get_or-take, get_or_append_left, length-take, set-get_or, take-append-le, take_all}
use Rattle.std.proofs.Math.Seq.{drop-append-add}
use Rattle.ffa_model.specs.Lists.{listed, run}
use Rattle.ffa_model.specs.Ram.{Ram, page_of, with_page, with_bytes}
use Rattle.ffa_rxtx.specs.Parts.{with_run}

-- READ
module _ (page : ℕ → List ℕ) where
  -- what stands from page i on begins with that page
  pub from-page : (n : ℕ) (f : ℕ → ℕ) (i : ℕ) → i < n → ((k : ℕ) → k < i → length (page (f k)) ≡ 4096)
      → (rest : List ℕ) × (drop (4096 * i) (flat_map page (listed n f)) ≡ page (f i) ++ rest)
  from-page zero f i lt whole = absurd (omega arith)
  from-page (suc n) f zero lt whole = (flat_map page (listed n (λ k. f (suc k))), refl)
  from-page (suc n) f (suc i) lt whole =
      let one : length (page (f 0)) ≡ 4096 = whole 0 (omega arith) in
      let (rest, is) = from-page n (λ k. f (suc k)) i (omega arith) (λ k lt_k. whole (suc k) (omega arith)) in
      let behind : 4096 * suc i ≡ length (page (f 0)) + 4096 * i = omega (arith, one) in (
        rest,
        ap (λ k. drop k (page (f 0) ++ flat_map page (listed n (λ j. f (suc j))))) behind
            ∙ drop-append-add (page (f 0)) (flat_map page (listed n (λ j. f (suc j)))) (4096 * i) ∙ is,
      )

  length-pieces : (n : ℕ) (f : ℕ → ℕ) → ((i : ℕ) → i < n → length (page (f i)) ≡ 4096) → length (flat_map page (listed n f)) ≡ 4096 * n
  length-pieces zero f whole = refl
  length-pieces (suc n) f whole =
      let rest = length-pieces n (λ i. f (suc i)) (λ i lt. whole (suc i) (omega arith)) in
      let one = whole 0 (omega arith) in
      length-append (page (f 0)) (flat_map page (listed n (λ i. f (suc i)))) ∙ omega (arith, rest, one)

  pub length-run : (first n : ℕ) → ((i : ℕ) → i < n → length (page (first + i)) ≡ 4096) → length (flat_map page (run first n)) ≡ 4096 * n
  length-run first n whole = length-pieces n (λ i. first + i) whole

  at-run : (first n : ℕ) → ((i : ℕ) → i < n → length (page (first + i)) ≡ 4096) → (place : ℕ) → place < 4096 * n
      → get_or (flat_map page (run first n)) place 0 ≡ get_or (page (first + place / 4096)) (place % 4096) 0
  at-run first n whole place below =
      let k : ℕ = place / 4096 in
      let lt : k < n = omega (arith, below) in
      let parts : place ≡ 4096 * k + place % 4096 = omega arith in
      let within : place % 4096 < length (page (first + k)) = (let one = whole k lt in omega (arith, one)) in
      let (rest, from) = from-page n (λ i. first + i) k lt (λ i lt_i. whole i (omega (arith, lt, lt_i))) in
      ap (λ i. get_or (flat_map page (run first n)) i 0) parts
      ∙ sym (get_or-drop (4096 * k) (flat_map page (run first n)) (place % 4096) 0)
      ∙ ap (λ (bytes : List ℕ). get_or bytes (place % 4096) 0) from
      ∙ get_or_append_left (page (first + k)) rest 0 (place % 4096) within

  -- the first of the bytes
  pub length-front : (first n len : ℕ) → ((i : ℕ) → i < n → length (page (first + i)) ≡ 4096) → len ≤ 4096 * n → length (take len (flat_map page (run first n))) ≡ len
  length-front first n len whole fits =
      let all = length-run first n whole in
      let cut = length-take len (flat_map page (run first n)) in
      omega (arith, all, cut, fits)

  pub at-run_front : (first n len : ℕ) → ((i : ℕ) → i < n → length (page (first + i)) ≡ 4096) → len ≤ 4096 * n → (place : ℕ) → place < len
      → get_or (take len (flat_map page (run first n))) place 0 ≡ get_or (page (first + place / 4096)) (place % 4096) 0
  at-run_front first n len whole fits place lt =
      get_or-take len (flat_map page (run first n)) place 0 lt ∙ at-run first n whole place (omega (arith, fits, lt))

  -- the front of the first page is the front of all
  pub front-run : (first n len : ℕ) → 1 ≤ n → length (page (first + 0)) ≡ 4096 → len ≤ 4096 → take len (flat_map page (run first n)) ≡ take len (page first)
  front-run first zero len some whole few = absurd (omega arith)
  front-run first (suc n) len some whole few =
      let same : first + 0 ≡ first = omega arith in
      take-append-le len (page (first + 0)) _ (omega (arith, whole, few)) ∙ ap (λ p. take len (page p)) same

-- WRITTEN
-- no bytes change nothing
pub nothing-runs : (n : ℕ) (ram : Ram) (first : ℕ) → with_run n ram first [] ≡ ram
nothing-runs zero ram first = refl
nothing-runs (suc n) ram first = ap (λ (r : Ram). with_run n r (first + 1) []) (same-page ram first) ∙ nothing-runs n ram (first + 1)
  where
    same-page : (ram : Ram) (p : ℕ) → with_page ram p (page_of ram p) ≡ ram
    same-page ram p = ap (λ (pages : List (List ℕ)). record ram { pages = pages }) (set-get_or ram.pages p [])

-- bytes of one page stand in the first
pub short-run : (n : ℕ) (ram : Ram) (first : ℕ) (bytes : List ℕ) → 1 ≤ n → length bytes ≤ 4096
    → with_run n ram first bytes ≡ with_page ram first (with_bytes (page_of ram first) 0 bytes)
short-run zero ram first bytes some few = absurd (omega arith)
short-run (suc n) ram first bytes some few =
    (λ i. with_run n (with_page ram first (with_bytes (page_of ram first) 0 (take_all 4096 bytes few i))) (first + 1) (drop_all 4096 bytes few i))
    ∙ nothing-runs n (with_page ram first (with_bytes (page_of ram first) 0 bytes)) (first + 1)
