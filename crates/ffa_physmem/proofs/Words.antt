-- SPDX-License-Identifier: MIT OR Apache-2.0
-- What a write of one word leaves of a page, word by word.
use Rattle.std.proofs.Common.{◌≡◌, ◌≢◌, ◌∙◌, ℕ, ◌+◌, ◌-◌, ◌*◌, ◌^◌, ◌<◌, ◌≤◌, List, ◌++◌, length, take, drop, get_or, ap, sym, arith, inl, inr, ◌⊎◌, length-append, length-drop, lit<, subst}
use Rattle.std.proofs.lemmas.List.{length-take-le, get_or_append_left, get_or-append_right, get_or-take, get_or-drop}
use Rattle.std.proofs.lemmas.Bool.{cases_lt}
use Rattle.std.proofs.Math.Seq.{drop-append_seam}
use Rattle.byteorder.specs.Endian.{little_number, little_bytes}
use Rattle.byteorder.specs.Numbers.{little_number-reads_back, length-bytes_low_first}
use Rattle.ffa_model.specs.Ram.{word_of, with_word}

-- eight equal bytes are one number
pub same_number : (xs ys : List ℕ) → ((i : ℕ) → i < 8 → get_or xs i 0 ≡ get_or ys i 0) → little_number 8 xs ≡ little_number 8 ys
same_number xs ys h =
    rw (h 0 (lit< tt), h 1 (lit< tt), h 2 (lit< tt), h 3 (lit< tt), h 4 (lit< tt), h 5 (lit< tt), h 6 (lit< tt), h 7 (lit< tt))

-- a byte before or after eight that were written
pub other_byte : (page bs : List ℕ) (k m : ℕ) → length bs ≡ 8 → k + 8 ≤ length page → ((m < k) ⊎ (k + 8 ≤ m))
    → get_or (take k page ++ (bs ++ drop 8 (drop k page))) m 0 ≡ get_or page m 0
other_byte page bs k m e h (inl low) =
    let t : length (take k page) ≡ k = length-take-le k page (omega arith) in
    get_or_append_left (take k page) (bs ++ drop 8 (drop k page)) 0 m (omega (arith, t)) ∙ get_or-take k page m 0 low
other_byte page bs k m e h (inr high) =
    let t : length (take k page) ≡ k = length-take-le k page (omega arith) in
    let at : k + (8 + (m - k - 8)) ≡ m = omega arith in
    get_or-append_right (take k page) (bs ++ drop 8 (drop k page)) k m 0 t (omega arith)
    ∙ get_or-append_right bs (drop 8 (drop k page)) 8 (m - k) 0 e (omega arith)
    ∙ get_or-drop 8 (drop k page) (m - k - 8) 0
    ∙ get_or-drop k page (8 + (m - k - 8)) 0
    ∙ ap (λ n. get_or page n 0) at

-- the word that was written
pub word_of-with_word_same : (page : List ℕ) (i v : ℕ) → 8 * i + 8 ≤ length page → v < 2 ^ 64 → word_of (with_word page i v) i ≡ v
word_of-with_word_same page i v h fits =
    let t : length (take (8 * i) page) ≡ 8 * i = length-take-le (8 * i) page (omega arith) in
    let rest : List ℕ = little_bytes 8 v ++ drop 8 (drop (8 * i) page) in
    let e : drop (8 * i) (take (8 * i) page ++ rest) ≡ rest =
    subst (λ (n : ℕ). drop n (take (8 * i) page ++ rest) ≡ rest) t (drop-append_seam (take (8 * i) page) rest)
    in
    ap (little_number 8) e ∙ little_number-reads_back 8 v (drop 8 (drop (8 * i) page)) fits

-- the other words
pub word_of-with_word_other : (page : List ℕ) (i j v : ℕ) → 8 * i + 8 ≤ length page → i ≢ j → word_of (with_word page i v) j ≡ word_of page j
word_of-with_word_other page i j v h apart =
    same_number (drop (8 * j) (with_word page i v)) (drop (8 * j) page) (λ k below.
    let at : ((8 * j + k < 8 * i) ⊎ (8 * i + 8 ≤ 8 * j + k)) =
    elim (cases_lt j i) [ inl low ↦ inl (omega arith) | inr high ↦ inr (omega arith) ]
    in
    get_or-drop (8 * j) (with_word page i v) k 0
    ∙ other_byte page (little_bytes 8 v) (8 * i) (8 * j + k) (length-bytes_low_first 0 8 v) h at
    ∙ sym (get_or-drop (8 * j) page k 0))

-- the page keeps its length
pub length-with_word : (page : List ℕ) (i v : ℕ) → 8 * i + 8 ≤ length page → length (with_word page i v) ≡ length page
length-with_word page i v h =
    let t : length (take (8 * i) page) ≡ 8 * i = length-take-le (8 * i) page (omega arith) in
    omega (
      arith,
      length-append (take (8 * i) page) (little_bytes 8 v ++ drop 8 (drop (8 * i) page)),
      length-append (little_bytes 8 v) (drop 8 (drop (8 * i) page)),
      length-bytes_low_first 0 8 v,
      length-drop 8 (drop (8 * i) page),
      length-drop (8 * i) page,
      t,
    )
