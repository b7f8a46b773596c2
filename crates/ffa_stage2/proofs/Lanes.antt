-- SPDX-License-Identifier: MIT OR Apache-2.0
-- From the lanes of one load to the words of a page.
use Rattle.std.proofs.Common.{◌≡◌, ◌∙◌, ℕ, suc, ◌+◌, ◌-◌, ◌*◌, ◌/◌, drop, inl, inr, ◌%◌, ◌^◌, ◌<◌, ◌≤◌, ◌↔◌, Bool, true, false, not, cond, List, [], ◌∷◌, map, length, get_or, Fits, w8, w64, refl, ap, sym, subst, arith, eqb, get_or-drop}
use Rattle.std.proofs.lemmas.Bool.{eqb-true, eq-eqb, cases_eq, cases_lt, ne_eqb, both_ways}
use Rattle.std.proofs.lemmas.Simd.{tops_compared, mask_l-mod, bit_mask_l, get_or-zip2, length-zip2, get_or_wider, length-chunk, get_or-chunk, chunk-fits, below_from_Fits}
use lib.Lanes.{chunk, zip2, mask_l, top, number_l, digits_l}
use Rattle.byteorder.specs.Endian.{little_number}
use Rattle.byteorder.specs.Numbers.{little_from-lt}
use Rattle.ffa_model.specs.Ram.{word_of}
use Rattle.ffa_physmem.proofs.Words.{same_number}
use Rattle.ffa_stage2.specs.Blocks.{IsUniform}
use Rattle.ffa_stage2.specs.Places.{IsRun}

-- whether two lanes differ
abbrev differ : ℕ → ℕ → Bool
differ a b = not (eqb a b)

mask-none : (ms : List Bool) → ((i : ℕ) → i < length ms → get_or ms i false ≡ false) → mask_l ms ≡ 0
mask-none [] h = refl
mask-none (m ∷ ms) h = rw (h 0 (omega arith), mask-none ms (λ i below. h (suc i) (omega arith)))

cond_zero : (b : Bool) → ◌≡◌ {A = ℕ} (cond b 1 0) 0 → b ≡ false
cond_zero true h = absurd (omega arith)
cond_zero false h = refl

-- no bit of the mask is set exactly where 8 lanes are equal
pub masked : (xs ys : List ℕ) → length xs ≡ 8 → length ys ≡ 8
    → (eqb (mask_l (map (top 63) (zip2 (λ a b. cond (differ a b) (2 ^ 64 - 1) 0) xs ys)) % 2 ^ 64) 0 ≡ true)
    ↔ ((j : ℕ) → j < 8 → get_or xs j 0 ≡ get_or ys j 0)
masked xs ys hx hy =
    let ms : List Bool = zip2 differ xs ys in
    let long : length ms ≡ 8 = length-zip2 differ xs ys (hx ∙ sym hy) ∙ hx in
    let mask = ap (λ (l : List Bool). mask_l l % 2 ^ 64) (tops_compared w64 differ xs ys) ∙ mask_l-mod ms 64 (omega (arith, long)) in
    let lane : (j : ℕ) → j < 8 → get_or ms j false ≡ differ (get_or xs j 0) (get_or ys j 0) =
    λ j hj. get_or-zip2 differ xs ys j 0 0 false (omega (arith, hx)) (omega (arith, hy))
    in (
      λ none j hj.
          let clear : mask_l ms ≡ 0 = sym mask ∙ eqb-true _ 0 none in
          let bit : ◌≡◌ {A = ℕ} (cond (get_or ms j false) 1 0) 0 = sym (bit_mask_l ms j) ∙ ap (λ (n : ℕ). n / 2 ^ j % 2) clear ∙ omega arith in
          elim (cases_eq (get_or xs j 0) (get_or ys j 0)) [
            | inl same ↦ same
            | inr other ↦ absurd (both_ways _ (sym (lane j hj) ∙ cond_zero _ bit) (ap not (ne_eqb _ _ other)))
          ],
      λ same. eq-eqb _ 0 (mask ∙ mask-none ms (λ i hi.
          let below : i < 8 = omega (arith, long) in
          lane i below ∙ ap not (eq-eqb _ _ (same i below)))),
    )

number-eight : (xs : List ℕ) → length xs ≡ 8 → number_l 256 xs ≡ little_number 8 xs
number-eight (a ∷ b ∷ c ∷ d ∷ e ∷ f ∷ g ∷ h ∷ []) long = refl
number-eight _ long = absurd (omega arith)

-- lane j of a load is a word of the page
pub lane_word : (page : List ℕ) (at j : ℕ) → 8 * (at + 8) ≤ length page → ((k : ℕ) → Fits w8 (get_or page k 0)) → j < 8
    → get_or (digits_l (2 ^ 64) 8 (number_l 256 (chunk (8 * at) 64 page))) j 0 ≡ word_of page (at + j)
lane_word page at j room fits hj =
    let load : List ℕ = chunk (8 * at) 64 page in
    let long : length load ≡ 64 = length-chunk (8 * at) 64 page (omega arith) in
    let place : 8 * at + 8 * j ≡ 8 * (at + j) = omega arith in
    get_or_wider 256 8 (2 ^ 64) 8 load j refl (below_from_Fits w8 load (chunk-fits w8 (8 * at) 64 page fits)) hj
    ∙ number-eight (chunk (8 * j) 8 load) (length-chunk (8 * j) 8 load (omega (arith, long)))
    ∙ same_number (chunk (8 * j) 8 load) (drop (8 * (at + j)) page) (λ i hi.
    let same : 8 * at + (8 * j + i) ≡ 8 * (at + j) + i = omega arith in
    get_or-chunk (8 * j) 8 load i 0 hi ∙ get_or-chunk (8 * at) 64 page (8 * j + i) 0 (omega arith)
    ∙ ap (λ (k : ℕ). get_or page k 0) same ∙ sym (get_or-drop (8 * (at + j)) page i 0))

-- the lanes that are wanted
abbrev wanted : ℕ → List ℕ
wanted first =
    (first + 0) % 2 ^ 64 ∷ (first + 0x1000) % 2 ^ 64 ∷ (first + 0x2000) % 2 ^ 64 ∷ (first + 0x3000) % 2 ^ 64
    ∷ (first + 0x4000) % 2 ^ 64 ∷ (first + 0x5000) % 2 ^ 64 ∷ (first + 0x6000) % 2 ^ 64 ∷ (first + 0x7000) % 2 ^ 64 ∷ []

wanted_lane : (first j : ℕ) → j < 8 → get_or (wanted first) j 0 ≡ (first + 4096 * j) % 2 ^ 64
wanted_lane first (suc (suc (suc (suc (suc (suc (suc (suc n)))))))) hj = absurd (omega arith)
wanted_lane first _ hj = refl

-- the lanes are as wanted exactly where the words are a run
pub lanes_run : (page : List ℕ) (at first : ℕ) → 8 * (at + 8) ≤ length page → ((k : ℕ) → Fits w8 (get_or page k 0))
    → (eqb (mask_l (map (top 63) (zip2 (λ a b. cond (differ a b) (2 ^ 64 - 1) 0) (digits_l (2 ^ 64) 8 (number_l 256 (chunk (8 * at) 64 page))) (wanted first))) % 2 ^ 64) 0 ≡ true)
    ↔ IsRun page at first
lanes_run page at first room fits =
    let both = masked (digits_l (2 ^ 64) 8 (number_l 256 (chunk (8 * at) 64 page))) (wanted first) refl refl in (
      λ none j hj. sym (lane_word page at j room fits hj) ∙ both.0 none j hj ∙ wanted_lane first j hj,
      λ run. both.1 (λ j hj. lane_word page at j room fits hj ∙ run j hj ∙ sym (wanted_lane first j hj)),
    )

-- ---- a page of runs

word_of-lt : (page : List ℕ) (i : ℕ) → ((k : ℕ) → get_or page k 0 < 256) → word_of page i < 2 ^ 64
word_of-lt page i fits =
    little_from-lt 0 8 (drop (8 * i) page) (λ k.
    subst (λ (n : ℕ). n < 256) (sym (get_or-drop (8 * i) page k 0)) (fits (8 * i + k)))

-- a first word above which 511 steps have no room
pub no_room : (page : List ℕ) (first : ℕ) → ((k : ℕ) → get_or page k 0 < 256) → first ≡ word_of page 0 → 2 ^ 64 - 4096 * 511 ≤ first
    → IsUniform page → ⊥
no_room page first fits is large h = omega (arith, h 511 (omega arith), word_of-lt page 511 fits, is, large)

-- one more run
pub run_next : (page : List ℕ) (run first : ℕ) → first ≡ word_of page 0 → first + 4096 * 511 < 2 ^ 64 → run < 64
    → ((i : ℕ) → i < 8 * run → word_of page i ≡ word_of page 0 + 4096 * i) → IsRun page (8 * run) (first + 0x8000 * run)
    → (i : ℕ) → i < 8 * (run + 1) → word_of page i ≡ word_of page 0 + 4096 * i
run_next page run first is room few before here i hi = elim (cases_lt i (8 * run)) [
  | inl low ↦ before i low
  | inr high ↦
      let place : 8 * run + (i - 8 * run) ≡ i = omega arith in
      let number : (first + 0x8000 * run + 4096 * (i - 8 * run)) % 2 ^ 64 ≡ first + 4096 * i = omega arith in
      ap (word_of page) (sym place) ∙ here (i - 8 * run) (omega arith) ∙ number ∙ ap (λ (n : ℕ). n + 4096 * i) is
]

-- a uniform page has each run
pub run_of : (page : List ℕ) (run first : ℕ) → first ≡ word_of page 0 → first + 4096 * 511 < 2 ^ 64 → run < 64 → IsUniform page → IsRun page (8 * run) (first + 0x8000 * run)
run_of page run first is room few h j hj =
    let number : first + 4096 * (8 * run + j) ≡ (first + 0x8000 * run + 4096 * j) % 2 ^ 64 = omega arith in
    h (8 * run + j) (omega arith) ∙ ap (λ (n : ℕ). n + 4096 * (8 * run + j)) (sym is) ∙ number
