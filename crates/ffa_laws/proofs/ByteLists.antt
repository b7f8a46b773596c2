-- SPDX-License-Identifier: MIT OR Apache-2.0
-- Lists of bytes, and what is written with them.
use Rattle.std.proofs.Common.{◌≡◌, ◌∙◌, ℕ, zero, suc, ◌+◌, ◌<◌, ◌≤◌, Bool, true, false, cond, List, [], ◌∷◌, ◌++◌, take, drop, length, refl, arith, length-append, length-drop, filter, nat_lt, length-take-le}
use Rattle.std.specs.Int.{byte_at, bytes_low_first}
use Rattle.std.specs.List.{enumerate_from, flat_map, list_all}
use Rattle.std.proofs.lemmas.Bool.{and_from, and_parts, lt-ltb}
use Rattle.std.proofs.lemmas.List.Folds.{list_all-append}
use Rattle.ffa_model.specs.Ram.{with_bytes}
use Rattle.ffa_model.specs.SoundState.{are_bytes}

-- what passes a test, and parts of it
module _ {X : Type 0} (test : X → Bool) where
  pub all-append : (xs ys : List X) → list_all test xs ≡ true → list_all test ys ≡ true → list_all test (xs ++ ys) ≡ true
  all-append xs ys front back = list_all-append test xs ys ∙ and_from (list_all test xs) (list_all test ys) front back

  pub all-take : (n : ℕ) (xs : List X) → list_all test xs ≡ true → list_all test (take n xs) ≡ true
  all-take zero xs all = refl
  all-take (suc n) [] all = refl
  all-take (suc n) (x ∷ xs) all = let (here, rest) = and_parts (test x) (list_all test xs) all in and_from (test x) (list_all test (take n xs)) here (all-take n xs rest)

  pub all-drop : (n : ℕ) (xs : List X) → list_all test xs ≡ true → list_all test (drop n xs) ≡ true
  all-drop zero xs all = all
  all-drop (suc n) [] all = refl
  all-drop (suc n) (x ∷ xs) all = all-drop n xs (and_parts (test x) (list_all test xs) all).1

  pub all-filter : (keep : X → Bool) (xs : List X) → list_all test xs ≡ true → list_all test (filter keep xs) ≡ true
  all-filter keep [] all = refl
  all-filter keep (x ∷ xs) all =
      let (here, rest) = and_parts (test x) (list_all test xs) all in
      let later = all-filter keep xs rest in
      elim (keep x) as (λ b. list_all test (cond b (x ∷ filter keep xs) (filter keep xs)) ≡ true) [
        | true ↦ and_from (test x) (list_all test (filter keep xs)) here later
        | false ↦ later
      ]

pub both-bytes : (xs ys : List ℕ) → are_bytes xs → are_bytes ys → are_bytes (xs ++ ys)
both-bytes xs ys = all-append (λ b. nat_lt b 256) xs ys

pub all-enumerated : {X : Type 0} (test : X → Bool) (k : ℕ) (xs : List X) → list_all test xs ≡ true → list_all (λ (x : ℕ × X). test x.1) (enumerate_from k xs) ≡ true
all-enumerated test k [] all = refl
all-enumerated test k (x ∷ xs) all = let (here, rest) = and_parts (test x) (list_all test xs) all in and_from (test x) _ here (all-enumerated test (k + 1) xs rest)

-- the bytes of a number
pub number-bytes : (i n x : ℕ) → are_bytes (bytes_low_first i n x)
number-bytes i zero x = refl
number-bytes i (suc n) x = and_from (nat_lt (byte_at i x) 256) _ (lt-ltb (byte_at i x) 256 (below i)) (number-bytes (suc i) n x)
  where
    below : (i : ℕ) → byte_at i x < 256
    below zero = omega arith
    below (suc i) = omega arith

-- a page with other bytes from a place on, which end in it
module _ (page : List ℕ) (at : ℕ) (bytes : List ℕ) where
  pub length-with_bytes : at + length bytes ≤ length page → length (with_bytes page at bytes) ≡ length page
  length-with_bytes fits =
      let front = length-take-le at page (omega arith) in
      let back = length-drop (length bytes) (drop at page) in
      let rest = length-drop at page in
      let both = length-append bytes (drop (length bytes) (drop at page)) in
      let all = length-append (take at page) (bytes ++ drop (length bytes) (drop at page)) in
      omega arith

  pub bytes-with_bytes : are_bytes page → are_bytes bytes → are_bytes (with_bytes page at bytes)
  bytes-with_bytes old new =
      all-append (λ b. nat_lt b 256) (take at page) (bytes ++ drop (length bytes) (drop at page)) (all-take (λ b. nat_lt b 256) at page old)
      (all-append (λ b. nat_lt b 256) bytes (drop (length bytes) (drop at page)) new (all-drop (λ b. nat_lt b 256) (length bytes) (drop at page) (all-drop (λ b. nat_lt b 256) at page old)))

-- pieces of elements that pass a test, at most of this length each, or of bytes
module _ {X : Type 0} (piece : X → List ℕ) (test : X → Bool) where
  pub bytes-pieces : (xs : List X) → list_all test xs ≡ true → ((x : X) → test x ≡ true → are_bytes (piece x)) → are_bytes (flat_map piece xs)
  bytes-pieces [] all each = refl
  bytes-pieces (x ∷ xs) all each =
      let (passes, rest) = and_parts (test x) (list_all test xs) all in
      all-append (λ b. nat_lt b 256) (piece x) (flat_map piece xs) (each x passes) (bytes-pieces xs rest each)
