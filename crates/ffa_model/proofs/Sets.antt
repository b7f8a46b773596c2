-- SPDX-License-Identifier: MIT OR Apache-2.0
-- Sets of lists of numbers: what is in them after a change, and that two with the same elements are one.
use Rattle.std.proofs.Common.{◌≡◌, ◌∙◌, ℕ, zero, suc, ◌<◌, arith, Bool, true, List, [], ◌∷◌, map, sym, ap, inl, inr, ◌||◌, ◌&&◌, not, Ordering, Less, Equal, Greater, refl}
use Rattle.std.specs.List.{flat_map, list_any}
use Rattle.std.specs.Ordering.{eq_by_cmp, is_eq, nat_cmp}
use Rattle.std.specs.Cmp.Lexicographic.{nat_list_cmp_total, slice_cmp}
use Rattle.std.specs.FinSet as finite_set
use Rattle.std.proofs.lemmas.Bool.{false≢true, or_cases, or_left, or_right}
use Rattle.std.proofs.lemmas.List.Folds.{list_any-append}
use Rattle.std.proofs.lemmas.Cmp.{eq_by_cmp_equiv}
use Rattle.ffa_model.specs.Lists.{listed}

abbrev pub Bits : Type 0
Bits = finite_set.FinSet (slice_cmp nat_cmp)

pub same_bits : (a b : Bits) → ((x : List ℕ) → finite_set.contains a x ≡ finite_set.contains b x) → a ≡ b
same_bits a b same = finite_set.same_set nat_list_cmp_total (finite_set.slice_cmp-IsAntisymmetric finite_set.nat_cmp-IsAntisymmetric) a b same

-- whether an entry is in a list
abbrev pub among : List ℕ → List (List ℕ) → Bool
among x xs = list_any (eq_by_cmp (slice_cmp nat_cmp) x) xs

abbrev pub bits_from : List (List ℕ) → Bits
bits_from xs = finite_set.from_list xs

pub contains-listed : (xs : List (List ℕ)) (x : List ℕ) → finite_set.contains (bits_from xs) x ≡ among x xs
contains-listed xs x = finite_set.contains-from_list nat_list_cmp_total xs x

pub contains-retained : (a : Bits) (test : List ℕ → Bool) (x : List ℕ) → finite_set.contains (finite_set.retain a test) x ≡ (finite_set.contains a x && test x)
contains-retained a test x = finite_set.contains-retain a test x (λ y tie. ap test (sym (finite_set.slice_cmp-IsAntisymmetric finite_set.nat_cmp-IsAntisymmetric x y tie)))

pub contains-more : (a : Bits) (xs : List (List ℕ)) (x : List ℕ) → finite_set.contains (finite_set.union a (finite_set.from_list xs)) x ≡ (finite_set.contains a x || among x xs)
contains-more a xs x = finite_set.contains-union nat_list_cmp_total a (finite_set.from_list xs) x ∙ ap (λ b. finite_set.contains a x || b) (contains-listed xs x)

pub contains-less : (a : Bits) (xs : List (List ℕ)) (x : List ℕ) → finite_set.contains (finite_set.difference a (finite_set.from_list xs)) x ≡ (finite_set.contains a x && not (among x xs))
contains-less a xs x = finite_set.contains-difference nat_list_cmp_total a (finite_set.from_list xs) x ∙ ap (λ b. finite_set.contains a x && not b) (contains-listed xs x)

pub same_elements : (x y : List ℕ) → eq_by_cmp (slice_cmp nat_cmp) x y ≡ true → x ≡ y
same_elements x y is = finite_set.slice_cmp-IsAntisymmetric finite_set.nat_cmp-IsAntisymmetric x y (go (slice_cmp nat_cmp x y) is)
  where
    go : (o : Ordering) → is_eq o ≡ true → o ≡ Equal
    go Less is = absurd (false≢true is)
    go Equal is = refl
    go Greater is = absurd (false≢true is)

-- an element of joined lists is one of some of them
pub among-joined : {X : Type 0} (x : List ℕ) (f : X → List (List ℕ)) (xs : List X) → among x (flat_map f xs) ≡ list_any (λ i. among x (f i)) xs
among-joined x f [] = refl
among-joined x f (i ∷ xs) = list_any-append (eq_by_cmp (slice_cmp nat_cmp) x) (f i) (flat_map f xs) ∙ ap (λ b. among x (f i) || b) (among-joined x f xs)

pub among-mapped : {X : Type 0} (x : List ℕ) (f : X → List ℕ) (xs : List X) → among x (map f xs) ≡ list_any (λ i. eq_by_cmp (slice_cmp nat_cmp) x (f i)) xs
among-mapped x f [] = refl
among-mapped x f (i ∷ xs) = ap (λ b. eq_by_cmp (slice_cmp nat_cmp) x (f i) || b) (among-mapped x f xs)

pub same-itself : (x : List ℕ) → eq_by_cmp (slice_cmp nat_cmp) x x ≡ true
same-itself x = (eq_by_cmp_equiv nat_list_cmp_total).refl x

-- a test of what a function gives at the first n indexes
pub any-found : {X : Type 0} (test : X → Bool) (n : ℕ) (f : ℕ → X) → list_any test (listed n f) ≡ true → (i : ℕ) × (i < n) × (test (f i) ≡ true)
any-found test zero f is = absurd (false≢true is)
any-found test (suc n) f is = elim (or_cases (test (f 0)) (list_any test (listed n (λ i. f (suc i)))) is) [
  | inl here ↦ (0, omega arith, here)
  | inr later ↦ (let found = any-found test n (λ i. f (suc i)) later in (suc found.0, omega arith, found.2))
]

pub any-listed : {X : Type 0} (test : X → Bool) (n : ℕ) (f : ℕ → X) (i : ℕ) → i < n → test (f i) ≡ true → list_any test (listed n f) ≡ true
any-listed test zero f i lt passes = absurd (omega arith)
any-listed test (suc n) f zero lt passes = or_left (test (f 0)) (list_any test (listed n (λ j. f (suc j)))) passes
any-listed test (suc n) f (suc i) lt passes = or_right (test (f 0)) (list_any test (listed n (λ j. f (suc j)))) (any-listed test n (λ j. f (suc j)) i (omega arith) passes)
