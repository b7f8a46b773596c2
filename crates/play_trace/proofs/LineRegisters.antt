-- SPDX-License-Identifier: MIT OR Apache-2.0
-- The registers of a call, word by word.
use Rattle.std.proofs.Common.{◌≡◌, ◌≢◌, Bool, true, false, ℕ, suc, ◌+◌, ◌-◌, ◌<◌, ◌≤◌, List, [], ◌∷◌, ◌++◌, length, set, replicate, option_map, option_and_then, Option, Some, None, sym, ap, ◌∙◌, arith, refl, append_assoc, append-nil, length-append, if◌then◌else◌}
use Rattle.std.proofs.Math.Seq.{set-append_seam}
use Rattle.ffa_model.specs.declared.operation.Op.TheVariants.{Call}
use Rattle.play_trace.specs.TraceLines.{operate, number_of, numbers_of, registers_of, call_of}

-- of the words, these numbers were read, and `left` are still to be read
pub record Reading (words left : List (List ℕ)) (x : List ℕ) (count : ℕ) : Type 0 where
  pub taken : List (List ℕ)
  pub given : List ℕ
  pub whole : words ≡ taken ++ left
  pub numbers : numbers_of taken ≡ Some given
  pub counted : count ≡ length given
  pub each : length taken ≡ length given
  pub few : count ≤ 8
  pub registers : x ≡ registers_of given

pub start : (words : List (List ℕ)) → Reading words words (replicate 8 0) 0
start words = record {
  taken = [];
  given = [];
  whole = refl;
  numbers = refl;
  counted = refl;
  each = refl;
  few = omega arith;
  registers = refl;
}

-- one more number, if each is one
abbrev with_last : Option ℕ → Option (List ℕ) → Option (List ℕ)
with_last n numbers = option_and_then (λ ns. option_map (λ m. ns ++ m ∷ []) n) numbers

first_of_all : (first : Option ℕ) (middle : Option (List ℕ)) (last : Option ℕ)
    → option_and_then (λ m. option_map (λ ns. m ∷ ns) (with_last last middle)) first ≡ with_last last (option_and_then (λ m. option_map (λ ns. m ∷ ns) middle) first)
first_of_all None middle last = refl
first_of_all (Some m) None last = refl
first_of_all (Some m) (Some ns) None = refl
first_of_all (Some m) (Some ns) (Some n) = refl

only_last : (last : Option ℕ) → option_and_then (λ n. option_map (λ ns. n ∷ ns) (Some [])) last ≡ with_last last (Some [])
only_last None = refl
only_last (Some n) = refl

numbers_of-push : (ws : List (List ℕ)) (w : List ℕ) → numbers_of (ws ++ w ∷ []) ≡ with_last (number_of w) (numbers_of ws)
numbers_of-push [] w = only_last (number_of w)
numbers_of-push (v ∷ ws) w =
    ap (λ ns. option_and_then (λ m. option_map (λ ms. m ∷ ms) ns) (number_of v)) (numbers_of-push ws w)
    ∙ first_of_all (number_of v) (numbers_of ws) (number_of w)

-- a word more that is a number
pub numbers_more : (ws : List (List ℕ)) (w : List ℕ) (ns : List ℕ) (n : ℕ) → numbers_of ws ≡ Some ns → Some n ≡ number_of w → numbers_of (ws ++ w ∷ []) ≡ Some (ns ++ n ∷ [])
numbers_more ws w ns n h e = numbers_of-push ws w ∙ rw (h, ← e) refl

-- a word that is no number
nothing_first : (first : Option ℕ) → option_and_then {T = ℕ} {U = List ℕ} (λ n. option_map (λ ns. n ∷ ns) None) first ≡ None
nothing_first None = refl
nothing_first (Some n) = refl

numbers_none : (ws : List (List ℕ)) (w : List ℕ) (rest : List (List ℕ)) → None ≡ number_of w → numbers_of (ws ++ w ∷ rest) ≡ None
numbers_none [] w rest e = rw (← e) refl
numbers_none (v ∷ ws) w rest e = rw (numbers_none ws w rest e) (nothing_first (number_of v))

registers_more : (given : List ℕ) (n : ℕ) → length given < 8 → set (registers_of given) (length given) n ≡ registers_of (given ++ n ∷ [])
registers_more given n h =
    let room : 8 - length given ≡ suc (8 - length (given ++ n ∷ [])) = omega (arith, length-append given (n ∷ [])) in
    ap (λ k. set (given ++ replicate k 0) (length given) n) room
    ∙ set-append_seam given 0 (replicate (8 - length (given ++ n ∷ [])) 0) n
    ∙ sym (append_assoc given (n ∷ []) (replicate (8 - length (given ++ n ∷ [])) 0))

pub more : (words left : List (List ℕ)) (word : List ℕ) (x : List ℕ) (count n : ℕ) → Reading words (word ∷ left) x count → count ≢ 8 → Some n ≡ number_of word
    → Reading words left (set x count n) (count + 1)
more words left word x count n r room e = record {
  taken = r.taken ++ word ∷ [];
  given = r.given ++ n ∷ [];
  whole = r.whole ∙ sym (append_assoc r.taken (word ∷ []) left);
  numbers = numbers_more r.taken word r.given n r.numbers e;
  counted = omega (arith, r.counted, length-append r.given (n ∷ []));
  each = omega (arith, r.each, length-append r.given (n ∷ []), length-append r.taken (word ∷ []));
  few = omega (arith, r.few, room);
  registers = rw (r.registers, r.counted) (registers_more r.given n (omega (arith, r.few, r.counted, room)));
}

at_none : (b : Bool) → None ≡ (if b then option_map (λ given. operate (Call (registers_of given))) None else None)
at_none true = refl
at_none false = refl

-- a word that is no number, and words behind the eighth
pub bad_word : (words left : List (List ℕ)) (word : List ℕ) (x : List ℕ) (count : ℕ) → Reading words (word ∷ left) x count → None ≡ number_of word → None ≡ call_of words
unfolding call_of
bad_word words left word x count r e = rw (r.whole, numbers_none r.taken word left e) (at_none _)

pub ninth_word : (words left : List (List ℕ)) (x : List ℕ) → Reading words left x 8 → (left ≡ [] → ⊥) → None ≡ call_of words
unfolding call_of
ninth_word words [] x r some = absurd (some refl)
ninth_word words (word ∷ left) x r some =
    let many : 8 < length words = omega (arith, ap length r.whole, length-append r.taken (word ∷ left), r.each, r.counted) in
    grind (arith, many)

-- no word is left
pub all_words : (words : List (List ℕ)) (x : List ℕ) (count : ℕ) → Reading words [] x count → count ≢ 0 → Some (operate (Call x)) ≡ call_of words
unfolding call_of
all_words words x count r e =
    let as_taken : words ≡ r.taken = r.whole ∙ append-nil r.taken in
    let some : 1 ≤ length words = omega (arith, ap length as_taken, r.each, r.counted, e) in
    let few : length words ≤ 8 = omega (arith, ap length as_taken, r.each, r.counted, r.few) in
    let numbers : numbers_of words ≡ Some r.given = ap numbers_of as_taken ∙ r.numbers in
    rw (numbers, r.registers) (grind (arith, some, few))
