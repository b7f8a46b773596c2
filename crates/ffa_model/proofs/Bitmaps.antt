-- SPDX-License-Identifier: MIT OR Apache-2.0
-- A word is the word of its own bits.
use Rattle.std.proofs.Common.{◌≡◌, ◌∙◌, ℕ, zero, suc, ◌+◌, ◌-◌, ◌*◌, ◌/◌, ◌%◌, ◌^◌, ◌<◌, Bool, cond, refl, sym, ap, add_comm, arith, ◌==◌}
use Rattle.std.proofs.lemmas.Nat.{mod-pow-add}
use Rattle.ffa_model.specs.Bits.{is_set, word_where}

-- the words of two tests that agree are equal
pub word_where-same : (n : ℕ) (test also : ℕ → Bool) → ((k : ℕ) → k < n → test k ≡ also k) → word_where n test ≡ word_where n also
word_where-same zero test also same = refl
word_where-same (suc n) test also same =
    λ i. word_where-same n test also (λ k lt. same k (omega arith)) i + cond (same n (omega arith) i) (2 ^ n) 0

digit : (c x : ℕ) → c < 2 → cond (c == 1) x 0 ≡ c * x
digit zero x lt = omega arith
digit (suc zero) x lt = omega arith
digit (suc (suc c)) x lt = absurd (omega arith)

-- bit k of a word, in its place
placed : (word k : ℕ) → cond (is_set k word) (2 ^ k) 0 ≡ word / 2 ^ k % 2 ^ 1 * 2 ^ k
placed word k =
    let width : k + 1 - k ≡ 1 = omega arith in
    ap (λ n. cond (word / 2 ^ k % 2 ^ n == 1) (2 ^ k) 0) width
    ∙ digit (word / 2 ^ k % 2 ^ 1) (2 ^ k) (omega arith)

-- the word of the bits of a word is that word
pub word_where-set : (n word : ℕ) → word_where n (λ k. is_set k word) ≡ word % 2 ^ n
word_where-set zero word = omega arith
word_where-set (suc n) word =
    (λ i. word_where-set n word i + placed word n i)
    ∙ add_comm (word % 2 ^ n) (word / 2 ^ n % 2 ^ 1 * 2 ^ n)
    ∙ sym (mod-pow-add word 1 n)
    ∙ ap (λ m. word % 2 ^ m) (omega arith)
