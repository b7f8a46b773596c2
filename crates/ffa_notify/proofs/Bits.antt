-- SPDX-License-Identifier: MIT OR Apache-2.0
-- The bits of words, and tests of them.
use Rattle.std.proofs.Common.{◌≡◌, ◌∙◌, ℕ, zero, suc, ◌+◌, ◌-◌, ◌/◌, ◌%◌, ◌^◌, ◌<◌, Bool, true, false, List, [], ◌∷◌, map, min, max, refl, sym, ap, arith}
use Rattle.std.specs.Prelude.{◌==◌, ◌||◌, ◌&&◌, not, filter, if◌then◌else◌}
use Rattle.std.specs.List.{list_all, list_any}
use Rattle.std.specs.Int.{bit_at, bit_not, w64}
use Rattle.std.specs.Int.RustNames.{bit_or}
use Rattle.std.specs.Ordering.{eq_by_cmp, nat_cmp}
use Rattle.std.specs.Cmp.Lexicographic.{slice_cmp}
use Rattle.std.proofs.lemmas.Bool.{and_from, and_parts, eq-eqb, false≢true, ne_eqb}
use Rattle.std.proofs.lemmas.Nat.Bits.{bit_at_and, bit_at_not, bit_at_or, bit_at-lt, bit_at-zero, same_from_bits_below}
use Rattle.std.proofs.lemmas.Nat.{and_le_l}
use lib.Bits.{bit_and}
use Rattle.ffa_model.specs.Bits.{bits_of, is_set}
use Rattle.ffa_model.specs.Lists.{listed}
use Rattle.ffa_model.proofs.Sets.{among, among-mapped, any-found, any-listed, same-itself, same_elements}

-- a bit of a word, as std has it
pub is_set-at : (k word : ℕ) → is_set k word ≡ (bit_at word k == 1)
is_set-at k word =
    let width : k + 1 - k ≡ 1 = omega arith in
    ap (λ n. word / 2 ^ k % 2 ^ n == 1) width

-- of two digits
either : (a b : ℕ) → a < 2 → b < 2 → (max a b == 1) ≡ ((a == 1) || (b == 1))
either zero zero _ _ = refl
either zero (suc zero) _ _ = refl
either (suc zero) zero _ _ = refl
either (suc zero) (suc zero) _ _ = refl
either (suc (suc a)) b lt _ = absurd (omega arith)
either zero (suc (suc b)) _ lt = absurd (omega arith)
either (suc zero) (suc (suc b)) _ lt = absurd (omega arith)

both : (a b : ℕ) → a < 2 → b < 2 → (min a b == 1) ≡ ((a == 1) && (b == 1))
both zero zero _ _ = refl
both zero (suc zero) _ _ = refl
both (suc zero) zero _ _ = refl
both (suc zero) (suc zero) _ _ = refl
both (suc (suc a)) b lt _ = absurd (omega arith)
both zero (suc (suc b)) _ lt = absurd (omega arith)
both (suc zero) (suc (suc b)) _ lt = absurd (omega arith)

other : (a : ℕ) → a < 2 → (1 - a == 1) ≡ not (a == 1)
other zero _ = refl
other (suc zero) _ = refl
other (suc (suc a)) lt = absurd (omega arith)

pub twice-not : (b : Bool) → not (not b) ≡ b
twice-not true = refl
twice-not false = refl

pub set-or : (k a b : ℕ) → is_set k (bit_or a b) ≡ (is_set k a || is_set k b)
set-or k a b =
    is_set-at k (bit_or a b)
    ∙ ap (λ d. d == 1) (bit_at_or a b k)
    ∙ either (bit_at a k) (bit_at b k) (bit_at-lt a k) (bit_at-lt b k)
    ∙ (λ i. sym (is_set-at k a) i || sym (is_set-at k b) i)

pub set-and : (k a b : ℕ) → is_set k (bit_and a b) ≡ (is_set k a && is_set k b)
set-and k a b =
    is_set-at k (bit_and a b)
    ∙ ap (λ d. d == 1) (bit_at_and a b k)
    ∙ both (bit_at a k) (bit_at b k) (bit_at-lt a k) (bit_at-lt b k)
    ∙ (λ i. sym (is_set-at k a) i && sym (is_set-at k b) i)

pub set-not : (k a : ℕ) → a < 2 ^ 64 → k < 64 → is_set k (bit_not w64 a) ≡ not (is_set k a)
set-not k a fits lt =
    is_set-at k (bit_not w64 a)
    ∙ ap (λ d. d == 1) (bit_at_not w64 a k fits lt)
    ∙ other (bit_at a k) (bit_at-lt a k)
    ∙ ap not (sym (is_set-at k a))

pub set-zero : (k : ℕ) → is_set k 0 ≡ false
set-zero k = is_set-at k 0 ∙ ap (λ d. d == 1) (bit_at-zero k)

unset-digit : (a : ℕ) → a < 2 → (a == 1) ≡ false → a ≡ 0
unset-digit zero _ _ = refl
unset-digit (suc zero) _ is = absurd (false≢true (sym is))
unset-digit (suc (suc a)) lt _ = absurd (omega arith)

-- a word none of whose bits is set is 0
pub no-bits : (word : ℕ) → word < 2 ^ 64 → ((k : ℕ) → k < 64 → is_set k word ≡ false) → word ≡ 0
no-bits word fits none =
    same_from_bits_below 64 word 0 fits (omega arith) (λ k lt.
    unset-digit (bit_at word k) (bit_at-lt word k) (sym (is_set-at k word) ∙ none k lt) ∙ sym (bit_at-zero k))

-- tests of those elements of a list that pass another
any-filtered : {X : Type 0} (test q : X → Bool) (xs : List X) → list_any test (filter q xs) ≡ list_any (λ x. q x && test x) xs
any-filtered test q [] = refl
any-filtered test q (x ∷ xs) =
    elim (q x) as (λ b. list_any test (if b then x ∷ filter q xs else filter q xs) ≡ ((b && test x) || list_any (λ y. q y && test y) xs)) [
      | true ↦ ap (λ b. test x || b) (any-filtered test q xs)
      | false ↦ any-filtered test q xs
    ]

all-filtered : {X : Type 0} (test q : X → Bool) (xs : List X) → list_all test (filter q xs) ≡ not (list_any (λ x. q x && not (test x)) xs)
all-filtered test q [] = refl
all-filtered test q (x ∷ xs) =
    elim (q x) as (λ b. list_all test (if b then x ∷ filter q xs else filter q xs) ≡ not ((b && not (test x)) || list_any (λ y. q y && not (test y)) xs)) [
      | true ↦ ap (λ b. test x && b) (all-filtered test q xs) ∙ apart (test x) (list_any (λ y. q y && not (test y)) xs)
      | false ↦ all-filtered test q xs
    ]
  where
    apart : (a b : Bool) → (a && not b) ≡ not (not a || b)
    apart true b = refl
    apart false b = refl

pub any-same : {X : Type 0} (test also : X → Bool) (n : ℕ) (f : ℕ → X) → ((k : ℕ) → k < n → test (f k) ≡ also (f k)) → list_any test (listed n f) ≡ list_any also (listed n f)
any-same test also zero f same = refl
any-same test also (suc n) f same =
    λ i. same 0 (omega arith) i || any-same test also n (λ k. f (suc k)) (λ k lt. same (suc k) (omega arith)) i

pub any-more : {X : Type 0} (test : X → Bool) (n : ℕ) (f : ℕ → X) → list_any test (listed (suc n) f) ≡ (list_any test (listed n f) || test (f n))
any-more test zero f = or-last (test (f 0))
  where
    or-last : (b : Bool) → (b || false) ≡ (false || b)
    or-last true = refl
    or-last false = refl
any-more test (suc n) f = ap (λ b. test (f 0) || b) (any-more test n (λ k. f (suc k))) ∙ joined (test (f 0)) (list_any test (listed n (λ k. f (suc k)))) (test (f (suc n)))
  where
    joined : (a b c : Bool) → (a || (b || c)) ≡ ((a || b) || c)
    joined true b c = refl
    joined false b c = refl

-- whether a word has any bit set
pub some-bit : (word : ℕ) → word < 2 ^ 64 → not (list_any (λ k. is_set k word) (listed 64 (λ k. k))) ≡ (word == 0)
some-bit word fits = go (list_any (λ k. is_set k word) (listed 64 (λ k. k))) refl
  where
    go : (b : Bool) → list_any (λ k. is_set k word) (listed 64 (λ k. k)) ≡ b → not b ≡ (word == 0)
    go true is =
        let found = any-found (λ k. is_set k word) 64 (λ k. k) is in
        sym (ne_eqb word 0 (λ e. false≢true (sym (set-zero found.0) ∙ ap (λ w. is_set found.0 w) (sym e) ∙ found.2)))
    go false is = sym (eq-eqb word 0 (no-bits word fits (λ k lt. missing k lt (is_set k word) refl)))
      where
        missing : (k : ℕ) → k < 64 → (c : Bool) → is_set k word ≡ c → is_set k word ≡ false
        missing k lt true set = absurd (false≢true (sym is ∙ any-listed (λ j. is_set j word) 64 (λ j. j) k lt set))
        missing k lt false set = set

-- all bits of a word pass a test, where it has none in common with the word of those that don't
pub all_bits : (test : ℕ → Bool) (word others : ℕ) → word < 2 ^ 64 → ((k : ℕ) → k < 64 → is_set k others ≡ not (test k))
    → (bit_and word others == 0) ≡ list_all test (bits_of word)
all_bits test word others fits are =
    sym (some-bit (bit_and word others) (omega (arith, and_le_l word others)))
    ∙ ap not (any-same (λ k. is_set k (bit_and word others)) (λ k. is_set k word && not (test k)) 64 (λ k. k) (λ k lt. set-and k word others ∙ ap (λ b. is_set k word && b) (are k lt)))
    ∙ sym (all-filtered test (λ k. is_set k word) (listed 64 (λ k. k)))

-- one of the bits of a word passes a test, where it has one in common with the word of those that do
pub any_bits : (test : ℕ → Bool) (word others : ℕ) → word < 2 ^ 64 → ((k : ℕ) → k < 64 → is_set k others ≡ test k)
    → not (bit_and word others == 0) ≡ list_any test (bits_of word)
any_bits test word others fits are =
    ap not (sym (some-bit (bit_and word others) (omega (arith, and_le_l word others))))
    ∙ twice-not (list_any (λ k. is_set k (bit_and word others)) (listed 64 (λ k. k)))
    ∙ any-same (λ k. is_set k (bit_and word others)) (λ k. is_set k word && test k) 64 (λ k. k) (λ k lt. set-and k word others ∙ ap (λ b. is_set k word && b) (are k lt))
    ∙ sym (any-filtered test (λ k. is_set k word) (listed 64 (λ k. k)))

-- an entry among those of the bits of a word
abbrev is_one : (ℕ → List ℕ) → ℕ → List ℕ → ℕ → Bool
is_one f word x j = is_set j word && eq_by_cmp (slice_cmp nat_cmp) x (f j)

among-one : (f : ℕ → List ℕ) (word : ℕ) (x : List ℕ) → among x (map f (bits_of word)) ≡ list_any (is_one f word x) (listed 64 (λ j. j))
among-one f word x = among-mapped x f (bits_of word) ∙ any-filtered (λ j. eq_by_cmp (slice_cmp nat_cmp) x (f j)) (λ j. is_set j word) (listed 64 (λ j. j))

pub among-found : (f : ℕ → List ℕ) (x : List ℕ) (word : ℕ) → among x (map f (bits_of word)) ≡ true → (k : ℕ) × (k < 64) × (is_set k word ≡ true) × (x ≡ f k)
among-found f x word is =
    let found = any-found (is_one f word x) 64 (λ j. j) (sym (among-one f word x) ∙ is) in
    let parts = and_parts _ _ found.2 in
    (found.0, found.1, parts.0, same_elements x (f found.0) parts.1)

pub among-set : (f : ℕ → List ℕ) (k word : ℕ) → k < 64 → ((j : ℕ) → f k ≡ f j → k ≡ j) → among (f k) (map f (bits_of word)) ≡ is_set k word
among-set f k word lt apart = go (among (f k) (map f (bits_of word))) refl (is_set k word) refl
  where
    go : (b : Bool) → among (f k) (map f (bits_of word)) ≡ b → (c : Bool) → is_set k word ≡ c → among (f k) (map f (bits_of word)) ≡ is_set k word
    go true is c set =
        let found = among-found f (f k) word is in
        is ∙ sym (ap (λ j. is_set j word) (apart found.0 found.3) ∙ found.2)
    go false is true set =
        absurd (false≢true (sym is ∙ among-one f word (f k) ∙ any-listed (is_one f word (f k)) 64 (λ j. j) k lt (and_from _ _ set (same-itself (f k)))))
    go false is false set = is ∙ sym set
