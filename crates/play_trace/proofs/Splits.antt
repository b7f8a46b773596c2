-- SPDX-License-Identifier: MIT OR Apache-2.0
-- One of many parts of the same size, between the bytes before it and those behind it.
use Rattle.std.proofs.Common.{◌≡◌, ℕ, zero, suc, ◌+◌, ◌<◌, List, [], ◌∷◌, ◌++◌, length, get_or, refl, sym, ap, ◌∙◌, arith, append_assoc, length-append, flat_map}
use Rattle.ffa_model.specs.Lists.{listed}

pub record Split (all part : List ℕ) (at : ℕ) : Type 0 where
  pub front : List ℕ
  pub rest : List ℕ
  pub place : length front ≡ at
  pub is : all ≡ front ++ (part ++ rest)

-- how many bytes so many parts of the same size have
pub record IsSize (size : ℕ → ℕ) : Type 0 where
  pub none : size 0 ≡ 0
  pub more : (n : ℕ) → size (suc n) ≡ size 1 + size n

pub length-flat : {X : Type 0} (size : ℕ → ℕ) (f : X → List ℕ) (xs : List X) → IsSize size → ((x : X) → length (f x) ≡ size 1) → length (flat_map f xs) ≡ size (length xs)
length-flat size f [] is each = sym is.none
length-flat size f (x ∷ xs) is each = length-append (f x) (flat_map f xs) ∙ omega (arith, each x, length-flat size f xs is each, is.more (length xs))

pub split_at : {X : Type 0} (size : ℕ → ℕ) (f : X → List ℕ) (xs : List X) (i : ℕ) (d : X) → IsSize size → ((x : X) → length (f x) ≡ size 1) → i < length xs
    → Split (flat_map f xs) (f (get_or xs i d)) (size i)
split_at size f [] i d is each lt = absurd (omega arith)
split_at size f (x ∷ xs) zero d is each lt = record { front = []; rest = flat_map f xs; place = sym is.none; is = refl }
split_at size f (x ∷ xs) (suc i) d is each lt =
    let s = split_at size f xs i d is each (omega arith) in
    record {
      front = f x ++ s.front;
      rest = s.rest;
      place = length-append (f x) s.front ∙ omega (arith, each x, s.place, is.more i);
      is = ap (λ (l : List ℕ). f x ++ l) s.is ∙ sym (append_assoc (f x) s.front (f (get_or xs i d) ++ s.rest));
    }

pub behind : (before all part : List ℕ) (base at : ℕ) → length before ≡ base → Split all part at → Split (before ++ all) part (base + at)
behind before all part base at long s =
    let place = s.place in
    record {
      front = before ++ s.front;
      rest = s.rest;
      place = length-append before s.front ∙ omega arith;
      is = ap (λ (l : List ℕ). before ++ l) s.is ∙ sym (append_assoc before s.front (part ++ s.rest));
    }

pub followed : (all part after : List ℕ) (at : ℕ) → Split all part at → Split (all ++ after) part at
followed all part after at s =
    record {
      front = s.front;
      rest = s.rest ++ after;
      place = s.place;
      is = ap (λ (l : List ℕ). l ++ after) s.is ∙ append_assoc s.front (part ++ s.rest) after ∙ ap (λ (l : List ℕ). s.front ++ l) (append_assoc part s.rest after);
    }

-- a list by its elements
pub listed_is : {X : Type 0} (xs : List X) (f : ℕ → X) → ((i : ℕ) (d : X) → i < length xs → f i ≡ get_or xs i d) → listed (length xs) f ≡ xs
listed_is [] f same = refl
listed_is (x ∷ xs) f same = λ i. same 0 x (omega arith) i ∷ listed_is xs (λ k. f (suc k)) (λ k d lt. same (suc k) d (omega arith)) i
