-- SPDX-License-Identifier: MIT OR Apache-2.0
-- FOR PROOFS ALONE
-- RAM with what stands in memory beneath copies.
use Rattle.std.proofs.Common.{◌≡◌, ◌≢◌, ◌∙◌, ℕ, zero, suc, ◌+◌, ◌-◌, ◌<◌, ◌≤◌, false, cond, List, [], ◌∷◌, length, take, drop, get_or, set, min, refl, ap, sym, arith, inl, inr, get_or-set_other, get_or-set_same, length-set}
use Rattle.std.proofs.lemmas.Bool.{cases_Bool, cases_lt, false≢true}
use Rattle.std.proofs.lemmas.List.{drop-set-add, drop-set-lt, get_or-drop, get_or-take, get_or_default, length-drop, length-take, same_lists, take-set-le}
use Rattle.std.proofs.Math.Nat.{min-le_left}
use Rattle.ffa_model.specs.Lists.{is_in_run, map_at}
use Rattle.ffa_model.specs.Ram.{Ram, page_of, with_page}
use Rattle.ffa_model.proofs.Accesses.{length-map_at}
use Rattle.ffa_model.proofs.Runs.{in-run, to-run}
use Rattle.ffa_physmem.specs.Moments.{IsBeside, with_beneath}

-- the bytes of page p with these in its frame, where so many pages from one on have these copies
abbrev pub seen_by : List (List ℕ) → ℕ → ℕ → ℕ → List ℕ → List ℕ
seen_by copies first count p b = cond (is_in_run first count p) (get_or copies (p - first) []) b

-- RAM over these frames, as it is seen with the copies
abbrev pub seen_ram : List (List ℕ) → ℕ → ℕ → Ram → Ram
seen_ram copies first count frames = record { base = frames.base; pages = map_at (seen_by copies first count) frames.pages }

pub seen-off : (copies : List (List ℕ)) (first count p : ℕ) (b : List ℕ) → is_in_run first count p ≡ false → seen_by copies first count p b ≡ b
seen-off copies first count p b off = ap (λ c. cond c (get_or copies (p - first) []) b) off

pub get_or-map_at : (f : ℕ → List ℕ → List ℕ) (xs : List (List ℕ)) (i : ℕ) → i < length xs → get_or (map_at f xs) i [] ≡ f i (get_or xs i [])
get_or-map_at f [] i lt = absurd (omega arith)
get_or-map_at f (x ∷ xs) zero lt = refl
get_or-map_at f (x ∷ xs) (suc i) lt = get_or-map_at (λ j. f (suc j)) xs i (omega arith)

-- any other page is seen as its frame
pub seen-beside : (frames copies : List (List ℕ)) (first count p : ℕ) → is_in_run first count p ≡ false → get_or (map_at (seen_by copies first count) frames) p [] ≡ get_or frames p []
seen-beside frames copies first count p off = page-same frames (seen_by copies first count) p (λ _. seen-off copies first count p (get_or frames p []) off)
  where
    page-same : (xs : List (List ℕ)) (f : ℕ → List ℕ → List ℕ) (p : ℕ) → (p < length xs → f p (get_or xs p []) ≡ get_or xs p [])
        → get_or (map_at f xs) p [] ≡ get_or xs p []
    page-same [] f p same = refl
    page-same (x ∷ xs) f zero same = same (omega arith)
    page-same (x ∷ xs) f (suc p) same = page-same xs (λ q. f (suc q)) p (λ lt. same (omega arith))

-- ---- one page

pub beneath-base : (ram : Ram) (first : ℕ) (bs : List (List ℕ)) → (with_beneath ram first bs).base ≡ ram.base
beneath-base ram first [] = refl
beneath-base ram first (b ∷ bs) = beneath-base (with_page ram first b) (suc first) bs

pub beneath-size : (ram : Ram) (first : ℕ) (bs : List (List ℕ)) → length (with_beneath ram first bs).pages ≡ length ram.pages
beneath-size ram first [] = refl
beneath-size ram first (b ∷ bs) = beneath-size (with_page ram first b) (suc first) bs ∙ length-set ram.pages first b

pub beneath-off : (ram : Ram) (first : ℕ) (bs : List (List ℕ)) (p : ℕ) → ((k : ℕ) → k < length bs → p ≢ first + k)
    → page_of (with_beneath ram first bs) p ≡ page_of ram p
beneath-off ram first [] p apart = refl
beneath-off ram first (b ∷ bs) p apart =
    beneath-off (with_page ram first b) (suc first) bs p (λ k lt same. apart (suc k) (omega (arith, lt)) (omega (arith, same)))
    ∙ get_or-set_other ram.pages first p b [] (λ same. apart 0 (omega arith) (omega (arith, same)))

beneath-in : (ram : Ram) (first : ℕ) (bs : List (List ℕ)) (p k : ℕ) → p ≡ first + k → k < length bs → p < length ram.pages
    → page_of (with_beneath ram first bs) p ≡ get_or bs k []
beneath-in ram first [] p k is lt inside = absurd (omega (arith, lt))
beneath-in ram first (b ∷ bs) p zero is lt inside =
    let here : p ≡ first = omega (arith, is) in
    beneath-off (with_page ram first b) (suc first) bs p (λ k _ same. absurd (omega (arith, same, here)))
    ∙ ap (λ n. page_of (with_page ram first b) n) here
    ∙ get_or-set_same ram.pages first b [] (omega (arith, inside, here))
beneath-in ram first (b ∷ bs) p (suc k) is lt inside =
    let size = length-set ram.pages first b in
    beneath-in (with_page ram first b) (suc first) bs p k (omega (arith, is)) (omega (arith, lt)) (omega (arith, inside, size))

-- ---- all pages

pub slice-size : (pages : List (List ℕ)) (first count : ℕ) → length (take count (drop first pages)) ≡ min count (length pages - first)
slice-size pages first count = length-take count (drop first pages) ∙ ap (min count) (length-drop first pages)

-- where no page beside these changed, RAM with what they had is what it was
module _ (old new : Ram) (first count : ℕ) (beside : IsBeside old new (is_in_run first count)) where
  abbrev slice : List (List ℕ)
  slice = take count (drop first old.pages)

  back-page : (p : ℕ) → p < length old.pages → page_of (with_beneath new first slice) p ≡ page_of old p
  back-page p lt = elim (cases_Bool (is_in_run first count p)) [
    | inl at ↦
        (let (low, high) = in-run first count p at in
        let k : ℕ = p - first in
        let back : p ≡ first + k = omega (arith, low) in
        let size = slice-size old.pages first count in
        beneath-in new first slice p k back (omega (arith, low, high, lt, size)) (omega (arith, lt, beside.size))
        ∙ get_or-take count (drop first old.pages) k [] (omega (arith, low, high))
        ∙ get_or-drop first old.pages k [] ∙ ap (λ n. get_or old.pages n []) (sym back))
    | inr off ↦
        (let size = slice-size old.pages first count in
        let less = min-le_left count (length old.pages - first) in
        beneath-off new first slice p (λ k few same. false≢true (sym off ∙ to-run first count p (omega (arith, same)) (omega (arith, same, few, size, less))))
        ∙ beside.pages p off)
  ]

  pub went-back : with_beneath new first slice ≡ old
  went-back =
      let size = beneath-size new first slice ∙ beside.size in
      let pages : (with_beneath new first slice).pages ≡ old.pages = same_lists _ _ size (λ p d lt.
      get_or_default (with_beneath new first slice).pages p d [] lt ∙ back-page p (omega (arith, lt, size))
      ∙ get_or_default old.pages p [] d (omega (arith, lt, size))) in
      λ j. record { base = (beneath-base new first slice ∙ beside.base) j; pages = pages j }

-- with what stands beneath copies, the pages that are seen are the frames
pub beneath-seen : (frames : Ram) (copies : List (List ℕ)) (first count : ℕ)
    → frames ≡ with_beneath (seen_ram copies first count frames) first (take count (drop first frames.pages))
beneath-seen frames copies first count = sym (went-back frames _ first count (record {
  base = refl;
  size = length-map_at (seen_by copies first count) frames.pages;
  pages = λ p off. seen-beside frames.pages copies first count p off;
}))

-- a page beside them leaves them
pub slice-kept : (pages : List (List ℕ)) (first count i : ℕ) (bytes : List ℕ) → is_in_run first count i ≡ false
    → take count (drop first (set pages i bytes)) ≡ take count (drop first pages)
slice-kept pages first count i bytes off = elim (cases_lt i first) [
  | inl less ↦ ap (take count) (drop-set-lt first pages i bytes less)
  | inr low ↦
      (let k : ℕ = i - first in
      let back : i ≡ first + k = omega (arith, low) in
      let past : count ≤ k = elim (cases_lt k count) [
        | inl few ↦ absurd (false≢true (sym off ∙ to-run first count i low (omega (arith, back, few))))
        | inr more ↦ more
      ] in
      ap (λ n. take count (drop first (set pages n bytes))) back
      ∙ ap (take count) (drop-set-add first pages k bytes)
      ∙ take-set-le count (drop first pages) k bytes past)
]
