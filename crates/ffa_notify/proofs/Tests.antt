-- SPDX-License-Identifier: MIT OR Apache-2.0
-- What the calls ask of bits, as tests of words.
use Rattle.std.proofs.Common.{◌≡◌, ◌∙◌, ℕ, ◌%◌, ◌^◌, ◌<◌, Bool, true, false, refl, sym, ap, arith}
use Rattle.std.specs.Prelude.{◌==◌, ◌||◌, ◌&&◌, not}
use Rattle.std.specs.List.{list_any}
use Rattle.std.specs.Int.{bit_not, w64}
use Rattle.std.specs.Int.RustNames.{bit_or}
use denote.Enum.Bare.{sameb}
use Rattle.ffa_notify.specs.contracts.class.Class.{the_type}
use Rattle.ffa_notify.specs.declared.class.Class.{Class}
use Rattle.ffa_notify.specs.declared.class.Class.TheVariants.{Partitions, NormalWorld, Manager}
use Rattle.ffa_notify.specs.Stored.{class_number}
use Rattle.std.specs.FinSet as finite_set
use lib.Bits.{bit_and}
use Rattle.ffa_model.specs.Bits.{bits_of, is_set}
use Rattle.ffa_model.specs.Lists.{listed}
use Rattle.ffa_model.specs.Notices.{has_notice}
use Rattle.ffa_model.specs.Notifications.{Notifications, class_of, has_bitmaps_in, has_pending, is_bindable, is_bound, is_bound_to_another, is_news, is_pending, is_unbindable, manager_class, normal_class, notice, partition_class, pending_word}
use Rattle.ffa_model.proofs.Bitmaps.{word_where-same, word_where-set}
use Rattle.ffa_notify.proofs.Bits.{any-same, any_bits, set-not, set-or, some-bit, twice-not}

neither-is : (a b : Bool) → (a || b) ≡ not (not a && not b)
neither-is true b = refl
neither-is false true = refl
neither-is false false = refl

pub joined : (a b c : Bool) → ((a || b) || c) ≡ (a || (b || (c || false)))
joined true b c = refl
joined false true c = refl
joined false false true = refl
joined false false false = refl

only-first : (a b : Bool) → (not a || b) ≡ not (a && not b)
only-first true true = refl
only-first true false = refl
only-first false b = refl

-- the bits that a sender may not get, lose or set
module _ (v : Notifications) (r s : ℕ) where
  pub not-bindable : (n others pending : ℕ) → ((k : ℕ) → k < 64 → is_set k others ≡ is_bound_to_another n v r (class_of s) k s)
      → ((k : ℕ) → k < 64 → is_set k pending ≡ is_pending v r (class_of s) k)
      → (k : ℕ) → k < 64 → is_set k (bit_or others pending) ≡ not (is_bindable n v r s k)
  not-bindable n others pending are_others are_pending k lt =
      set-or k others pending
      ∙ (λ t. are_others k lt t || are_pending k lt t)
      ∙ neither-is (is_bound_to_another n v r (class_of s) k s) (is_pending v r (class_of s) k)

  module _ (bound : ℕ) (fits_bound : bound < 2 ^ 64) (are_bound : (k : ℕ) → k < 64 → is_set k bound ≡ is_bound v r (class_of s) k s) where
    pub not-settable : (k : ℕ) → k < 64 → is_set k (bit_not w64 bound) ≡ not (is_bound v r (class_of s) k s)
    not-settable k lt = set-not k bound fits_bound lt ∙ ap not (are_bound k lt)

    pub not-unbindable : (pending : ℕ) → ((k : ℕ) → k < 64 → is_set k pending ≡ is_pending v r (class_of s) k)
        → (k : ℕ) → k < 64 → is_set k (bit_or (bit_not w64 bound) pending) ≡ not (is_unbindable v r s k)
    not-unbindable pending are_pending k lt =
        set-or k (bit_not w64 bound) pending
        ∙ (λ t. not-settable k lt t || are_pending k lt t)
        ∙ only-first (is_bound v r (class_of s) k s) (is_pending v r (class_of s) k)

-- the word of a receiver's class
module _ (v : Notifications) (r class word : ℕ) (fits : word < 2 ^ 64) (are : (k : ℕ) → k < 64 → is_set k word ≡ is_pending v r class k) where
  pub some-pending : not (word == 0) ≡ list_any (is_pending v r class) (listed 64 (λ k. k))
  some-pending =
      ap not (sym (some-bit word fits)) ∙ twice-not (list_any (λ k. is_set k word) (listed 64 (λ k. k)))
      ∙ any-same (λ k. is_set k word) (is_pending v r class) 64 (λ k. k) are

  pub word-pending : word ≡ pending_word v r class
  word-pending =
      let whole : word ≡ word % 2 ^ 64 = omega arith in
      whole ∙ sym (word_where-set 64 word) ∙ word_where-same 64 (λ k. is_set k word) (is_pending v r class) are

  -- bits of a receiver that has bitmaps are news where one isn't pending
  pub some-news : has_bitmaps_in v r ≡ true → (bitmap : ℕ) → bitmap < 2 ^ 64
      → not (bit_and bitmap (bit_not w64 word) == 0) ≡ is_news v r class (bits_of bitmap)
  some-news has bitmap fits_bitmap =
      λ t. sym has t
      && any_bits (λ k. not (is_pending v r class k)) bitmap (bit_not w64 word) fits_bitmap (λ k lt. set-not k word fits lt ∙ ap not (are k lt)) t

-- an entry of a receiver for another sender
pub different : (a b : Class) → (class_number a ≡ class_number b) → not (sameb the_type a b) ≡ false
different Partitions Partitions same = refl
different NormalWorld NormalWorld same = refl
different Manager Manager same = refl
different Partitions NormalWorld same = absurd (omega arith)
different Partitions Manager same = absurd (omega arith)
different NormalWorld Partitions same = absurd (omega arith)
different NormalWorld Manager same = absurd (omega arith)
different Manager Partitions same = absurd (omega arith)
different Manager NormalWorld same = absurd (omega arith)

-- whether any bit of three words is set
pub some-of-three : (v : Notifications) (r : ℕ) (a b c : Bool) → a ≡ list_any (is_pending v r partition_class) (listed 64 (λ k. k))
    → b ≡ list_any (is_pending v r normal_class) (listed 64 (λ k. k)) → c ≡ list_any (is_pending v r manager_class) (listed 64 (λ k. k))
    → ((a || b) || c) ≡ has_pending v r
some-of-three v r a b c is_a is_b is_c = joined a b c ∙ (λ t. is_a t || (is_b t || (is_c t || false)))

-- whether there is a notice of any of three classes
pub notice-of-three : (v : Notifications) (r : ℕ) (a b c : Bool) → a ≡ finite_set.contains v.notices (notice r partition_class)
    → b ≡ finite_set.contains v.notices (notice r normal_class) → c ≡ finite_set.contains v.notices (notice r manager_class)
    → ((a || b) || c) ≡ has_notice v r
notice-of-three v r a b c is_a is_b is_c = joined a b c ∙ (λ t. is_a t || (is_b t || (is_c t || false)))
