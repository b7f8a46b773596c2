-- SPDX-License-Identifier: MIT OR Apache-2.0
-- The sets that words mean, when a word changes.
use Rattle.std.proofs.Common.{◌≡◌, ◌∙◌, ℕ, ◌+◌, ◌*◌, ◌^◌, ◌<◌, Bool, true, false, List, length, get_or, map, set, refl, sym, ap, subst, inl, inr, get_or-set_other, get_or-set_same}
use Rattle.std.specs.Prelude.{◌||◌, ◌&&◌, not}
use Rattle.std.specs.FinSet as finite_set
use Rattle.std.specs.Int.{bit_not, w64}
use Rattle.std.specs.Int.RustNames.{bit_or}
use Rattle.std.proofs.lemmas.Bool.{and_parts, cases_eq, or_cases}
use lib.Bits.{bit_and}
use Rattle.ffa_model.specs.Bits.{bits_of, is_set}
use Rattle.ffa_model.proofs.Sets.{Bits, among, contains-less, contains-more, contains-retained}
use Rattle.ffa_notify.specs.Stored.{entries}
use Rattle.ffa_notify.proofs.Bits.{among-found, among-set, set-and, set-not, set-or}
use Rattle.ffa_notify.proofs.Universe.{all-has, contains-at, contains-none, kept, retained-is}

-- an entry has the bit of the word at its place
pub record AreRead (f : ℕ → ℕ → ℕ → List ℕ) (test : List ℕ → List ℕ → Bool) (stride m : ℕ) : Type 0 where
  pub reads : (words : List ℕ) (i j k : ℕ) → test words (f i j k) ≡ is_set k (get_or words (stride * i + j) 0)
  pub apart : (i j k i' j' k' : ℕ) → f i j k ≡ f i' j' k' → (i ≡ i') × (j ≡ j') × (k ≡ k')
  pub one_place : (i j i' j' : ℕ) → j < m → j' < m → stride * i + j ≡ stride * i' + j' → (i ≡ i') × (j ≡ j')

module _ (f : ℕ → ℕ → ℕ → List ℕ) (test : List ℕ → List ℕ → Bool) (stride l m : ℕ) (are : AreRead f test stride m) where
  abbrev pub set_of : List ℕ → Bits
  set_of words = kept f l m 64 (test words)

  pub contains-bit : (words : List ℕ) (i j k : ℕ) → i < l → j < m → k < 64 → finite_set.contains (set_of words) (f i j k) ≡ is_set k (get_or words (stride * i + j) 0)
  contains-bit words i j k lt_i lt_j lt_k = contains-at f l m 64 (test words) i j k lt_i lt_j lt_k ∙ are.reads words i j k

  -- the set of words is one that has the same entries
  pub set-is : (words : List ℕ) (b : Bits) → ((x : List ℕ) → finite_set.contains b x ≡ true → among x (entries f l m 64) ≡ true)
      → ((i j k : ℕ) → i < l → j < m → k < 64 → is_set k (get_or words (stride * i + j) 0) ≡ finite_set.contains b (f i j k))
      → set_of words ≡ b
  set-is words b no_others same = retained-is f l m 64 (test words) b no_others (λ i j k lt_i lt_j lt_k. are.reads words i j k ∙ same i j k lt_i lt_j lt_k)

  -- of the words only those with a test's entries keep their bits
  pub set-retained : (words after : List ℕ) (p : List ℕ → Bool)
      → ((i j k : ℕ) → i < l → j < m → k < 64 → is_set k (get_or after (stride * i + j) 0) ≡ (is_set k (get_or words (stride * i + j) 0) && p (f i j k)))
      → set_of after ≡ finite_set.retain (set_of words) p
  set-retained words after p same =
      set-is after (finite_set.retain (set_of words) p)
      (λ x is. contains-none f l m 64 (test words) x (and_parts _ _ (sym (contains-retained (set_of words) p x) ∙ is)).0)
      (λ i j k lt_i lt_j lt_k.
      same i j k lt_i lt_j lt_k
      ∙ ap (λ b. b && p (f i j k)) (sym (contains-bit words i j k lt_i lt_j lt_k))
      ∙ sym (contains-retained (set_of words) p (f i j k)))

  -- the word at a place gets or loses bits
  module _ (words : List ℕ) (i j bitmap : ℕ) (lt_i : i < l) (lt_j : j < m) (within : stride * i + j < length words) where
    abbrev place_of : ℕ
    place_of = stride * i + j

    abbrev with_more : List ℕ
    with_more = set words place_of (bit_or (get_or words place_of 0) bitmap)

    abbrev with_less : List ℕ
    with_less = set words place_of (bit_and (get_or words place_of 0) (bit_not w64 bitmap))

    elsewhere : (i' j' k : ℕ) → i' < l → j' < m → (stride * i' + j' ≡ place_of → ⊥) → among (f i' j' k) (map (f i j) (bits_of bitmap)) ≡ false
    elsewhere i' j' k lt_i' lt_j' other = go (among (f i' j' k) (map (f i j) (bits_of bitmap))) refl
      where
        go : (b : Bool) → among (f i' j' k) (map (f i j) (bits_of bitmap)) ≡ b → among (f i' j' k) (map (f i j) (bits_of bitmap)) ≡ false
        go true is =
            let found = among-found (f i j) (f i' j' k) bitmap is in
            let same = are.apart i' j' k i j found.0 found.3 in
            absurd (other (λ t. stride * same.0 t + same.1 t))
        go false is = is

    here : (k : ℕ) → k < 64 → among (f i j k) (map (f i j) (bits_of bitmap)) ≡ is_set k bitmap
    here k lt = among-set (f i j) k bitmap lt (λ k' e. (are.apart i j k i j k' e).2)

    pub set-more : set_of with_more ≡ finite_set.union (set_of words) (finite_set.from_list (map (f i j) (bits_of bitmap)))
    set-more =
        set-is with_more _ no_others (λ i' j' k lt_i' lt_j' lt_k. same i' j' k lt_i' lt_j' lt_k ∙ sym (contains-more (set_of words) (map (f i j) (bits_of bitmap)) (f i' j' k)))
      where
        no_others : (x : List ℕ) → finite_set.contains (finite_set.union (set_of words) (finite_set.from_list (map (f i j) (bits_of bitmap)))) x ≡ true → among x (entries f l m 64) ≡ true
        no_others x is = elim (or_cases _ _ (sym (contains-more (set_of words) (map (f i j) (bits_of bitmap)) x) ∙ is)) [
          | inl old ↦ contains-none f l m 64 (test words) x old
          | inr new ↦ (let found = among-found (f i j) x bitmap new in
              subst (λ y. among y (entries f l m 64) ≡ true) (sym found.3) (all-has f l m 64 i j found.0 lt_i lt_j found.1))
        ]

        same : (i' j' k : ℕ) → i' < l → j' < m → k < 64
            → is_set k (get_or with_more (stride * i' + j') 0) ≡ (finite_set.contains (set_of words) (f i' j' k) || among (f i' j' k) (map (f i j) (bits_of bitmap)))
        same i' j' k lt_i' lt_j' lt_k = elim (cases_eq (stride * i' + j') place_of) [
          | inl e ↦ (let at = are.one_place i' j' i j lt_j' lt_j e in
              ap (λ t. is_set k (get_or with_more t 0)) e
              ∙ ap (λ w. is_set k w) (get_or-set_same words place_of (bit_or (get_or words place_of 0) bitmap) 0 within)
              ∙ set-or k (get_or words place_of 0) bitmap
              ∙ (λ t. sym (contains-bit words i j k lt_i lt_j lt_k) t || sym (here k lt_k) t)
              ∙ (λ t. finite_set.contains (set_of words) (f (sym at.0 t) (sym at.1 t) k) || among (f (sym at.0 t) (sym at.1 t) k) (map (f i j) (bits_of bitmap))))
          | inr other ↦ (
              ap (λ w. is_set k w) (get_or-set_other words place_of (stride * i' + j') (bit_or (get_or words place_of 0) bitmap) 0 other)
              ∙ sym (contains-bit words i' j' k lt_i' lt_j' lt_k)
              ∙ or-false (finite_set.contains (set_of words) (f i' j' k))
              ∙ ap (λ b. finite_set.contains (set_of words) (f i' j' k) || b) (sym (elsewhere i' j' k lt_i' lt_j' other)))
        ]
          where
            or-false : (b : Bool) → b ≡ (b || false)
            or-false true = refl
            or-false false = refl

    pub set-less : bitmap < 2 ^ 64 → set_of with_less ≡ finite_set.difference (set_of words) (finite_set.from_list (map (f i j) (bits_of bitmap)))
    set-less fits =
        set-is with_less _ no_others (λ i' j' k lt_i' lt_j' lt_k. same i' j' k lt_i' lt_j' lt_k ∙ sym (contains-less (set_of words) (map (f i j) (bits_of bitmap)) (f i' j' k)))
      where
        no_others : (x : List ℕ) → finite_set.contains (finite_set.difference (set_of words) (finite_set.from_list (map (f i j) (bits_of bitmap)))) x ≡ true → among x (entries f l m 64) ≡ true
        no_others x is = contains-none f l m 64 (test words) x (and_parts _ _ (sym (contains-less (set_of words) (map (f i j) (bits_of bitmap)) x) ∙ is)).0

        same : (i' j' k : ℕ) → i' < l → j' < m → k < 64
            → is_set k (get_or with_less (stride * i' + j') 0) ≡ (finite_set.contains (set_of words) (f i' j' k) && not (among (f i' j' k) (map (f i j) (bits_of bitmap))))
        same i' j' k lt_i' lt_j' lt_k = elim (cases_eq (stride * i' + j') place_of) [
          | inl e ↦ (let at = are.one_place i' j' i j lt_j' lt_j e in
              ap (λ t. is_set k (get_or with_less t 0)) e
              ∙ ap (λ w. is_set k w) (get_or-set_same words place_of (bit_and (get_or words place_of 0) (bit_not w64 bitmap)) 0 within)
              ∙ set-and k (get_or words place_of 0) (bit_not w64 bitmap)
              ∙ ap (λ b. is_set k (get_or words place_of 0) && b) (set-not k bitmap fits lt_k)
              ∙ (λ t. sym (contains-bit words i j k lt_i lt_j lt_k) t && not (sym (here k lt_k) t))
              ∙ (λ t. finite_set.contains (set_of words) (f (sym at.0 t) (sym at.1 t) k) && not (among (f (sym at.0 t) (sym at.1 t) k) (map (f i j) (bits_of bitmap)))))
          | inr other ↦ (
              ap (λ w. is_set k w) (get_or-set_other words place_of (stride * i' + j') (bit_and (get_or words place_of 0) (bit_not w64 bitmap)) 0 other)
              ∙ sym (contains-bit words i' j' k lt_i' lt_j' lt_k)
              ∙ and-true (finite_set.contains (set_of words) (f i' j' k))
              ∙ ap (λ b. finite_set.contains (set_of words) (f i' j' k) && not b) (sym (elsewhere i' j' k lt_i' lt_j' other)))
        ]
          where
            and-true : (b : Bool) → b ≡ (b && true)
            and-true true = refl
            and-true false = refl
