-- SPDX-License-Identifier: MIT OR Apache-2.0
-- What the stored words mean for endpoints, and how it changes with a word.
use Rattle.std.proofs.Common.{◌≡◌, ◌∙◌, ℕ, zero, suc, ◌+◌, ◌*◌, ◌^◌, ◌<◌, ◌≤◌, Bool, true, false, List, length, get_or, map, set, refl, sym, ap, arith, inl, inr}
use Rattle.std.specs.Prelude.{◌==◌, ◌&&◌, not, nat_lt, if◌then◌else◌}
use Rattle.std.specs.FinSet as finite_set
use Rattle.std.specs.Int.{bit_not, w64}
use Rattle.std.specs.Int.RustNames.{bit_or}
use Rattle.std.proofs.lemmas.Bool.{cases_eq, cases_lt, eq-eqb, le-ltb, lt-ltb, ne_eqb}
use lib.Bits.{bit_and}
use Rattle.ffa_model.specs.declared.limits.TheConstants.{MOST_ENDPOINTS}
use Rattle.ffa_model.specs.Bits.{bits_of, is_set}
use Rattle.ffa_model.specs.Identifiers.{identifier, place}
use Rattle.ffa_model.specs.Notifications.{binding, bindings, class_of, is_got, receiver_bit, receiver_of_entry}
use Rattle.ffa_model.specs.State.{is_known_among}
use Rattle.ffa_model.proofs.Places.{known-named, known-place, place-identifier, same-identifier}
use Rattle.ffa_notify.specs.Stored.{bit_of, bound_in, entry, has_binding, has_pending_bit, is_asked, pending_in}
use Rattle.ffa_notify.proofs.Asked.{asked-at, asked-before, asked-behind}
use Rattle.ffa_notify.proofs.Bits.{set-zero}
use Rattle.ffa_notify.proofs.Universe.{all-is, contains-none}
use Rattle.ffa_notify.proofs.Changes.{AreRead, contains-bit, set-less, set-more, set-retained}

pub neither : (b : Bool) → (b && false) ≡ false
neither true = refl
neither false = refl

pub as-before : (b : Bool) → (b && true) ≡ b
as-before true = refl
as-before false = refl

pub bound-read : (n : ℕ) → n ≤ MOST_ENDPOINTS → AreRead entry has_binding MOST_ENDPOINTS n
bound-read n few = record {
  reads = λ words i j k t. is_set k (get_or words (MOST_ENDPOINTS * place-identifier i t + place-identifier j t) 0);
  apart = λ i j k i' j' k' same.
      let first : identifier i ≡ identifier i' = cc in
      let last : identifier j ≡ identifier j' = cc in
      let bit : k ≡ k' = cc in
      (same-identifier i i' first, same-identifier j j' last, bit);
  one_place = λ i j i' j' lt lt' same. (omega arith, omega arith);
}

pub pending-read : AreRead bit_of has_pending_bit 3 3
pending-read = record {
  reads = λ words i j k t. is_set k (get_or words (3 * place-identifier i t + j) 0);
  apart = λ i j k i' j' k' same.
      let first : identifier i ≡ identifier i' = cc in
      let class : j ≡ j' = cc in
      let bit : k ≡ k' = cc in
      (same-identifier i i' first, class, bit);
  one_place = λ i j i' j' lt lt' same. (omega arith, omega arith);
}

-- the words of bindings among n endpoints
module _ (n : ℕ) (words : List ℕ) (some : 1 ≤ n) (few : n ≤ MOST_ENDPOINTS) where
  -- a sender's bits, and none of another class
  pub bound-other_class : (r class k s : ℕ) → (class ≡ class_of s → ⊥) → finite_set.contains (bound_in n words) (binding r class k s) ≡ false
  unfolding bound_in
  bound-other_class r class k s other = go (finite_set.contains (bound_in n words) (binding r class k s)) refl
    where
      go : (b : Bool) → finite_set.contains (bound_in n words) (binding r class k s) ≡ b → finite_set.contains (bound_in n words) (binding r class k s) ≡ false
      go true is =
          let at = all-is entry n n 64 (binding r class k s) (contains-none entry n n 64 (has_binding words) (binding r class k s) is) in
          let same : class ≡ class_of (identifier at.1) = cc (at.6) in
          let sender : s ≡ identifier at.1 = cc (at.6) in
          absurd (other (same ∙ ap class_of (sym sender)))
      go false is = is

  module _ (r s : ℕ) (known_r : is_known_among n r ≡ true) (known_s : is_known_among n s ≡ true) where
    pub bound-at : (k : ℕ) → k < 64 → is_set k (get_or words (MOST_ENDPOINTS * place r + place s) 0) ≡ finite_set.contains (bound_in n words) (binding r (class_of s) k s)
    unfolding bound_in
    bound-at k lt =
        sym (contains-bit entry has_binding MOST_ENDPOINTS n n (bound-read n few) words (place r) (place s) k (known-place n r some known_r) (known-place n s some known_s) lt)
        ∙ (λ t. finite_set.contains (bound_in n words) (binding (known-named n r known_r t) (class_of (known-named n s known_s t)) k (known-named n s known_s t)))

    module _ (count : length words ≡ MOST_ENDPOINTS * n) (bitmap : ℕ) where
      within : MOST_ENDPOINTS * place r + place s < length words
      within = let lt_r = known-place n r some known_r in let lt_s = known-place n s some known_s in omega arith

      pub bound-more : bound_in n (set words (MOST_ENDPOINTS * place r + place s) (bit_or (get_or words (MOST_ENDPOINTS * place r + place s) 0) bitmap)) ≡ finite_set.union (bound_in n words) (bindings r s (bits_of bitmap))
      unfolding bound_in
      bound-more =
          set-more entry has_binding MOST_ENDPOINTS n n (bound-read n few) words (place r) (place s) bitmap (known-place n r some known_r) (known-place n s some known_s) within
          ∙ (λ t. finite_set.union (bound_in n words) (bindings (known-named n r known_r t) (known-named n s known_s t) (bits_of bitmap)))

      pub bound-less : bitmap < 2 ^ 64 → bound_in n (set words (MOST_ENDPOINTS * place r + place s) (bit_and (get_or words (MOST_ENDPOINTS * place r + place s) 0) (bit_not w64 bitmap))) ≡ finite_set.difference (bound_in n words) (bindings r s (bits_of bitmap))
      unfolding bound_in
      bound-less fits =
          set-less entry has_binding MOST_ENDPOINTS n n (bound-read n few) words (place r) (place s) bitmap (known-place n r some known_r) (known-place n s some known_s) within fits
          ∙ (λ t. finite_set.difference (bound_in n words) (bindings (known-named n r known_r t) (known-named n s known_s t) (bits_of bitmap)))

-- the normal world's words are the first
module _ (n : ℕ) (words after : List ℕ) (few : n ≤ MOST_ENDPOINTS) (cleared : (k : ℕ) → get_or after k 0 ≡ (if nat_lt k MOST_ENDPOINTS then 0 else get_or words k 0)) where
  bound-first : (i j k : ℕ) → j < n → is_set k (get_or after (MOST_ENDPOINTS * i + j) 0) ≡ (is_set k (get_or words (MOST_ENDPOINTS * i + j) 0) && not (identifier i == 0))
  bound-first zero j k lt =
      ap (λ x. is_set k x) (cleared (MOST_ENDPOINTS * 0 + j) ∙ ap (λ b. if b then 0 else get_or words (MOST_ENDPOINTS * 0 + j) 0) (lt-ltb (MOST_ENDPOINTS * 0 + j) MOST_ENDPOINTS (omega arith)))
      ∙ set-zero k
      ∙ sym (neither (is_set k (get_or words (MOST_ENDPOINTS * 0 + j) 0)))
  bound-first (suc i) j k lt =
      ap (λ x. is_set k x) (cleared (MOST_ENDPOINTS * suc i + j) ∙ ap (λ b. if b then 0 else get_or words (MOST_ENDPOINTS * suc i + j) 0) (le-ltb (MOST_ENDPOINTS * suc i + j) MOST_ENDPOINTS (omega arith)))
      ∙ sym (as-before (is_set k (get_or words (MOST_ENDPOINTS * suc i + j) 0)))
      ∙ ap (λ b. is_set k (get_or words (MOST_ENDPOINTS * suc i + j) 0) && not b) (sym (ne_eqb (0x8001 + i) 0 (λ e. omega arith)))

  pub bound-emptied : bound_in n after ≡ finite_set.retain (bound_in n words) (λ x. not (receiver_of_entry x == 0))
  unfolding bound_in
  bound-emptied =
      set-retained entry has_binding MOST_ENDPOINTS n n (bound-read n few) words after (λ x. not (receiver_of_entry x == 0)) (λ i j k lt_i lt_j lt_k. bound-first i j k lt_j)

-- the words of pending bits
module _ (n : ℕ) (words : List ℕ) (some : 1 ≤ n) (r class : ℕ) (known_r : is_known_among n r ≡ true) (few : class < 3) where
  pub pending-at : (k : ℕ) → k < 64 → is_set k (get_or words (3 * place r + class) 0) ≡ finite_set.contains (pending_in n words) (receiver_bit r class k)
  unfolding pending_in
  pending-at k lt =
      sym (contains-bit bit_of has_pending_bit 3 n 3 pending-read words (place r) class k (known-place n r some known_r) few lt)
      ∙ (λ t. finite_set.contains (pending_in n words) (receiver_bit (known-named n r known_r t) class k))

  pub pending-more : length words ≡ 3 * n → (bitmap : ℕ)
      → pending_in n (set words (3 * place r + class) (bit_or (get_or words (3 * place r + class) 0) bitmap)) ≡ finite_set.union (pending_in n words) (finite_set.from_list (map (receiver_bit r class) (bits_of bitmap)))
  unfolding pending_in
  pending-more count bitmap =
      let lt_r = known-place n r some known_r in
      set-more bit_of has_pending_bit 3 n 3 pending-read words (place r) class bitmap lt_r few (omega arith)
      ∙ (λ t. finite_set.union (pending_in n words) (finite_set.from_list (map (receiver_bit (known-named n r known_r t) class) (bits_of bitmap))))

-- the words of the classes of a receiver that flags ask for
module _ (n : ℕ) (words after : List ℕ) (some : 1 ≤ n) (r flags : ℕ) (known_r : is_known_among n r ≡ true)
    (cleared : (k : ℕ) → get_or after k 0 ≡ (if is_asked (3 * place r) 3 flags k then 0 else get_or words k 0)) where
  abbrev remains : List ℕ → Bool
  remains x = not (is_got r flags x)

  of-receiver : (i j k : ℕ) → i ≡ place r → j < 3 → is_set k (get_or after (3 * i + j) 0) ≡ (is_set k (get_or words (3 * i + j) 0) && remains (bit_of i j k))
  of-receiver i j k at lt =
      ap (λ x. is_set k x) (cleared (3 * i + j) ∙ ap (λ b. if b then 0 else get_or words (3 * i + j) 0) (ap (λ p. is_asked (3 * place r) 3 flags (3 * p + j)) at ∙ asked-at (3 * place r) 3 j flags lt))
      ∙ go (is_set j flags)
      ∙ ap (λ b. is_set k (get_or words (3 * i + j) 0) && not (b && is_set j flags)) (sym (eq-eqb (identifier i) r (ap identifier at ∙ known-named n r known_r)))
    where
      go : (b : Bool) → is_set k (if b then 0 else get_or words (3 * i + j) 0) ≡ (is_set k (get_or words (3 * i + j) 0) && not b)
      go true = set-zero k ∙ sym (neither (is_set k (get_or words (3 * i + j) 0)))
      go false = sym (as-before (is_set k (get_or words (3 * i + j) 0)))

  of-another : (i j k : ℕ) → (i ≡ place r → ⊥) → j < 3 → is_set k (get_or after (3 * i + j) 0) ≡ (is_set k (get_or words (3 * i + j) 0) && remains (bit_of i j k))
  of-another i j k other lt =
      ap (λ x. is_set k x) (cleared (3 * i + j) ∙ ap (λ b. if b then 0 else get_or words (3 * i + j) 0) unasked)
      ∙ sym (as-before (is_set k (get_or words (3 * i + j) 0)))
      ∙ ap (λ b. is_set k (get_or words (3 * i + j) 0) && not (b && is_set j flags)) (sym (ne_eqb (identifier i) r (λ e. other (sym (place-identifier i) ∙ ap place e))))
    where
      unasked : is_asked (3 * place r) 3 flags (3 * i + j) ≡ false
      unasked = elim (cases_lt i (place r)) [
        | inl before ↦ asked-before (3 * place r) 3 flags (3 * i + j) (omega arith)
        | inr behind ↦ (elim (cases_eq i (place r)) [
          | inl same ↦ absurd (other same)
          | inr not_same ↦ asked-behind (3 * place r) 3 flags (3 * i + j) (omega arith)
        ])
      ]

  pub pending-asked : pending_in n after ≡ finite_set.retain (pending_in n words) remains
  unfolding pending_in
  pending-asked =
      set-retained bit_of has_pending_bit 3 n 3 pending-read words after remains (λ i j k lt_i lt_j lt_k. elim (cases_eq i (place r)) [
        | inl at ↦ of-receiver i j k at lt_j
        | inr other ↦ of-another i j k other lt_j
      ])
