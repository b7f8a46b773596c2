-- SPDX-License-Identifier: MIT OR Apache-2.0
use Rattle.std.proofs.Common.{arith, ap, ◌∙◌, ◌≡◌, ℕ, ◌+◌, ◌-◌, ◌≤◌, min, length, take, drop, List, [], ◌∷◌, ◌++◌, slice_set, rules}
use Rattle.std.proofs.lemmas.List.{length-take, set-append_right}
use Rattle.std.proofs.Math.Seq.{drop-cons}
use Rattle.ffa_c.specs.Refusing.{told_in}
use Rattle.ffa_c.proofs.refusing.put_words.Goals as goal

-- a NUL in front of the bytes from n on
nul-before : (byte : ℕ) (bytes : List ℕ) (n : ℕ) → n ≤ length bytes → slice_set (drop n (byte ∷ bytes)) 0 0 ≡ 0 ∷ drop n bytes
nul-before byte bytes n few = rw (drop-cons (byte ∷ bytes) n 0 (omega arith)) (search rules)

-- the words that were copied to the front, then a NUL
told_end : (words said new : List ℕ) (n last : ℕ) → length words ≡ last + 1 → n ≡ min (length said) last → new ≡ take n said
    → slice_set (new ++ drop n words) n 0 ≡ told_in words said
told_end [] said new n last size is front = absurd (omega (arith, size))
told_end (byte ∷ bytes) said new n last size is front =
    let same : last ≡ length bytes = omega (arith, size) in
    let whole : length (take n said) ≡ n = omega (arith, length-take n said, is) in
    let none : n - n ≡ 0 = omega arith in
    let put = set-append_right (take n said) (drop n (byte ∷ bytes)) n n 0 whole (omega arith) in
    let nul = ap (λ i. slice_set (drop n (byte ∷ bytes)) i 0) none ∙ nul-before byte bytes n (omega (arith, is, same)) in
    let all = ap (λ front. slice_set (front ++ drop n (byte ∷ bytes)) n 0) front ∙ put ∙ ap (λ rest. take n said ++ rest) nul in
    all ∙ ap (λ n. take n said ++ 0 ∷ drop n bytes) (is ∙ ap (λ m. min (length said) m) same)

pub returns : goal.returns
returns c =
    let size = c.in-Some.ensures in
    told_end c.args.words.now c.args.said.now c.copy_from_slice.new.self c.min-size.result c.in-Some.last
    (omega (arith, size.0, size.1)) c.min-size.ensures c.copy_from_slice.ensures.after
