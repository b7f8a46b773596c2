-- SPDX-License-Identifier: MIT OR Apache-2.0
-- The bitmaps at boot.
use Rattle.std.proofs.Common.{◌≡◌, ◌∙◌, ℕ, zero, suc, ◌+◌, ◌*◌, ◌<◌, ◌≤◌, ◌==◌, ◌++◌, Bool, false, List, [], ◌∷◌, length, get_or, map, replicate, take, refl, sym, ap, arith, bit_and}
use Rattle.std.proofs.lemmas.Bool.{false≢true}
use Rattle.std.specs.List.{enumerate_from}
use Rattle.std.specs.Ordering.{nat_cmp}
use Rattle.std.specs.Cmp.Lexicographic.{slice_cmp}
use Rattle.std.specs.FinSet as finite_set
use Rattle.std.proofs.lemmas.Bool.Decides.{nat_tests}
use Rattle.std.proofs.lemmas.List.{length-take-le, map-append, take_more}
use Rattle.ffa_model.specs.declared.endpoint.Endpoint.{Endpoint}
use Rattle.ffa_model.specs.First.{has_first_bitmaps}
use Rattle.std.proofs.lemmas.Nat.Bits.{and_pow}
use Rattle.ffa_model.specs.declared.limits.TheConstants.{MOST_ENDPOINTS}
use Rattle.ffa_model.specs.Bits.{is_set}
use Rattle.ffa_notify.specs.Stored.{bit_of, bound_in, entry, has_binding, has_pending_bit, pending_in}
use Rattle.ffa_notify.proofs.Bits.{set-zero}
use Rattle.ffa_notify.proofs.Changes.{set-is}
use Rattle.ffa_notify.proofs.Stores.{bound-read, pending-read}

pub contains_fourth : (n : ℕ) → (bit_and n 8 == 8) ≡ is_set 3 n
contains_fourth n = let e = and_pow n 3 in rw e (grind (arith, nat_tests))

pub enumerate-more : {X : Type 0} (n : ℕ) (xs : List X) (x : X) → enumerate_from n (xs ++ x ∷ []) ≡ enumerate_from n xs ++ (n + length xs, x) ∷ []
enumerate-more n [] x = let same : n ≡ n + 0 = omega arith in ap (λ m. (m, x) ∷ []) same
enumerate-more n (y ∷ ys) x =
    let further : n + 1 + length ys ≡ n + suc (length ys) = omega arith in
    ap (λ zs. (n, y) ∷ zs) (enumerate-more (n + 1) ys x ∙ ap (λ m. enumerate_from (n + 1) ys ++ (m, x) ∷ []) further)

abbrev no_bits : ℕ → List ℕ
no_bits n = replicate n 0

unset : (n i k : ℕ) → is_set k (get_or (no_bits n) i 0) ≡ false
unset n i k = ap (λ w. is_set k w) (zeros n i) ∙ set-zero k
  where
    zeros : (n i : ℕ) → get_or (no_bits n) i 0 ≡ 0
    zeros zero i = refl
    zeros (suc n) zero = refl
    zeros (suc n) (suc i) = zeros n i

pub none-bound : (n count : ℕ) → n ≤ MOST_ENDPOINTS → bound_in n (no_bits count) ≡ finite_set.empty
unfolding bound_in
none-bound n count few =
    set-is entry has_binding MOST_ENDPOINTS n n (bound-read n few) (no_bits count) finite_set.empty (λ x is. absurd (false≢true (sym (finite_set.contains-empty (slice_cmp nat_cmp) x) ∙ is)))
    (λ i j k lt_i lt_j lt_k. unset count (MOST_ENDPOINTS * i + j) k ∙ sym (finite_set.contains-empty (slice_cmp nat_cmp) (entry i j k)))

pub none-pending : (n count : ℕ) → pending_in n (no_bits count) ≡ finite_set.empty
unfolding pending_in
none-pending n count =
    set-is bit_of has_pending_bit 3 n 3 pending-read (no_bits count) finite_set.empty (λ x is. absurd (false≢true (sym (finite_set.contains-empty (slice_cmp nat_cmp) x) ∙ is)))
    (λ i j k lt_i lt_j lt_k. unset count (3 * i + j) k ∙ sym (finite_set.contains-empty (slice_cmp nat_cmp) (bit_of i j k)))

-- one endpoint more
pub bitmaps-more : (es : List Endpoint) (i : ℕ) (e d : Endpoint) (has after : List Bool) (b : Bool) → i < length es → e ≡ get_or es i d → after ≡ has ++ b ∷ []
    → has ≡ map has_first_bitmaps (enumerate_from 0 (take i es)) → b ≡ has_first_bitmaps (i, e) → after ≡ map has_first_bitmaps (enumerate_from 0 (take (i + 1) es))
bitmaps-more es i e d has after b lt at is before is_b =
    let from : i ≡ 0 + length (take i es) = omega (arith, length-take-le i es (omega arith)) in
    is
    ∙ (λ t. before t ++ is_b t ∷ [])
    ∙ sym (map-append has_first_bitmaps (enumerate_from 0 (take i es)) ((i, e) ∷ []))
    ∙ ap (λ m. map has_first_bitmaps (enumerate_from 0 (take i es) ++ (m, e) ∷ [])) from
    ∙ ap (map has_first_bitmaps) (sym (enumerate-more 0 (take i es) e))
    ∙ ap (λ xs. map has_first_bitmaps (enumerate_from 0 xs)) (ap (λ x. take i es ++ x ∷ []) at ∙ sym (take_more es i d lt))
