-- SPDX-License-Identifier: MIT OR Apache-2.0
-- Stores that are put one behind the other.
use Rattle.std.proofs.Common.{◌≡◌, ℕ, true, false, ◌+◌, ◌-◌, ◌%◌, ◌^◌, ◌<◌, ◌≤◌, List, [], ◌∷◌, ◌++◌, length, take, drop, get_or, refl, sym, ap, ◌∙◌, subst, arith, append_assoc, append-nil, take-append-drop, length-drop, inl, inr, ◌==◌}
use Rattle.std.specs.Int.{bytes_low_first}
use Rattle.std.proofs.lemmas.List.{get_or-drop, nil_from_length}
use Rattle.byteorder.specs.Endian.{little_from}
use Rattle.std.proofs.lemmas.Bool.{cases_lt, eqb-true}
use Rattle.ffa_model.specs.declared.operation.Size.{Size}
use Rattle.ffa_model.specs.declared.operation.Op.{Op}
use Rattle.ffa_model.specs.declared.operation.Op.TheVariants.{Store}
use Rattle.ffa_model.specs.Memory.{size_of}
use Rattle.ffa_model.specs.ResponseBytes.{le}
use Rattle.play_trace.specs.TraceLines.{feed, joined}
use Rattle.play_trace.specs.TraceText.{ended}
use Rattle.play_trace.specs.Script.{IsLineOf, GrowsBy, Stored, Stores, GrowsByStores, largest}
use Rattle.play_trace.proofs.Bytes.{bytes_read}

-- an address is a multiple of the largest size that the bytes fill, and so it goes on behind them
pub record IsReady (at n : ℕ) : Type 0 where
  pub eight : 8 ≤ n → at % 8 ≡ 0
  pub four : 4 ≤ n → at % 4 ≡ 0
  pub two : 2 ≤ n → at % 2 ≡ 0

pub ready : (at n : ℕ) → at % 8 ≡ 0 → IsReady at n
ready at n h = record { eight = λ _. h; four = λ _. omega (arith, h); two = λ _. omega (arith, h) }

pub size_fits : (n : ℕ) → 1 ≤ n → size_of (largest n) ≤ n
size_fits n h = grind (arith, h)

eight_fit : (n : ℕ) → 8 ≤ n → size_of (largest n) ≡ 8
eight_fit n h = grind (arith, h)

four_fit : (n : ℕ) → 4 ≤ n → n < 8 → size_of (largest n) ≡ 4
four_fit n h few = grind (arith, h, few)

two_fit : (n : ℕ) → 2 ≤ n → n < 4 → size_of (largest n) ≡ 2
two_fit n h few = grind (arith, h, few)

one_fits : (n : ℕ) → n < 2 → size_of (largest n) ≡ 1
one_fits n few = grind (arith, few)

-- what holds of each size holds of the largest
by_size : (P : ℕ → Type 0) (n : ℕ) → (8 ≤ n → P 8) → (4 ≤ n → n < 8 → P 4) → (2 ≤ n → n < 4 → P 2) → (n < 2 → P 1) → P (size_of (largest n))
by_size P n eight four two one =
    elim (cases_lt n 8) [
      | inr many ↦ subst P (sym (eight_fit n many)) (eight many)
      | inl below ↦
          elim (cases_lt n 4) [
            | inr many ↦ subst P (sym (four_fit n many below)) (four many below)
            | inl few ↦
                elim (cases_lt n 2) [
                  | inr many ↦ subst P (sym (two_fit n many few)) (two many few)
                  | inl none ↦ subst P (sym (one_fits n none)) (one none)
                ]
          ]
    ]

pub aligned : (at n : ℕ) → IsReady at n → at % size_of (largest n) ≡ 0
aligned at n r = by_size (λ k. at % k ≡ 0) n r.eight (λ h few. r.four h) (λ h few. r.two h) (λ few. omega arith)

-- fewer than two bytes are left
few_left : (at n : ℕ) → n < 2 → IsReady at n
few_left at n few = record { eight = λ h. absurd (omega (arith, h, few)); four = λ h. absurd (omega (arith, h, few)); two = λ h. absurd (omega (arith, h, few)) }

pub ready_next : (at n : ℕ) → IsReady at n → IsReady (at + size_of (largest n)) (n - size_of (largest n))
ready_next at n r =
    by_size (λ k. IsReady (at + k) (n - k)) n (λ h. ready (at + 8) (n - 8) (omega (arith, r.eight h)))
    (λ h few. record { eight = λ m. absurd (omega (arith, m, few)); four = λ m. absurd (omega (arith, m, few)); two = λ _. omega (arith, r.four h) })
    (λ h few. few_left (at + 2) (n - 2) (omega (arith, few))) (λ few. few_left (at + 1) (n - 1) (omega (arith, few)))

-- the lines so far, and what any others that store the rest make of them
pub record Storing (start at : ℕ) (bytes rest old text : List ℕ) : Type 0 where
  pub lines : List (List ℕ)
  pub whole : text ≡ old ++ joined lines
  pub goes_on : (more : List (List ℕ)) → Stores at more rest → Stores start (lines ++ more) bytes

joined-push : (lines : List (List ℕ)) (line : List ℕ) → joined (lines ++ line ∷ []) ≡ joined lines ++ ended line
joined-push [] line = refl
joined-push (l ∷ lines) line = ap (λ t. l ++ feed ∷ t) (joined-push lines line) ∙ sym (append_assoc l (feed ∷ joined lines) (ended line))

pub one_stored : (start at : ℕ) (bytes rest old text line more : List ℕ) (size : Size) → Storing start at bytes rest old text → Stored at line rest more size
    → Storing start (at + size_of size) bytes more old (text ++ ended line)
one_stored start at bytes rest old text line more size s one = record {
  lines = s.lines ++ line ∷ [];
  whole = ap (λ t. t ++ ended line) s.whole ∙ append_assoc old (joined s.lines) (ended line) ∙ ap (λ t. old ++ t) (sym (joined-push s.lines line));
  goes_on = λ others h. subst (λ l. Stores start l bytes) (sym (append_assoc s.lines (line ∷ []) others)) (s.goes_on (line ∷ others) (size, more, one, h));
}

-- what holds between two stores
pub record Between (start at : ℕ) (bytes rest old text : List ℕ) : Type 0 where
  pub stored : Storing start at bytes rest old text
  pub ready : IsReady at (length rest)
  pub small : (k : ℕ) → get_or rest k 0 < 256
  pub inside : at + length rest ≤ 2 ^ 32

-- one more store, of the number that is read of the first bytes
module _ (start at : ℕ) (bytes rest old text now after : List ℕ) (size : Size) (count value : ℕ) (most : size ≡ largest (length rest)) (counted : count ≡ size_of size)
    (read : value ≡ little_from 0 count rest) (behind : after ≡ drop count rest) (some : 1 ≤ length rest) (small : (k : ℕ) → get_or rest k 0 < 256) where
  fits : count ≤ length rest
  fits = omega (arith, size_fits (length rest) some, counted, ap size_of most)

  first : le (size_of size) value ≡ take (size_of size) rest
  unfolding le
  first =
      ap (bytes_low_first 0 (size_of size)) (read ∙ ap (λ n. little_from 0 n rest) counted)
      ∙ bytes_read rest (size_of size) (omega (arith, fits, counted)) small

  whole : rest ≡ le (size_of size) value ++ after
  whole =
      sym (take-append-drop (size_of size) rest) ∙ ap (λ l. l ++ drop (size_of size) rest) (sym first) ∙ ap (λ n. le (size_of size) value ++ drop n rest) (sym counted)
      ∙ ap (λ l. le (size_of size) value ++ l) (sym behind)

  left : length rest - count ≡ length after
  left = omega (arith, ap length behind, length-drop count rest)

  stored : Storing start at bytes rest old text → IsReady at (length rest) → GrowsBy (Store at size value) text now → Storing start (at + count) bytes after old now
  stored s ready (line, grew, is) =
      let multiple : at % size_of size ≡ 0 = ap (λ z. at % size_of z) most ∙ aligned at (length rest) ready in
      let one : Stored at line rest after size = record { value = value; stores = is; aligned = multiple; whole = whole; most = most } in
      subst (λ n. Storing start (at + n) bytes after old now) (sym counted)
      (subst (λ t. Storing start (at + size_of size) bytes after old t) (sym grew) (one_stored start at bytes rest old text line after size s one))

  pub next : Between start at bytes rest old text → GrowsBy (Store at size value) text now → Between start (at + count) bytes after old now
  next b grows = record {
    stored = stored b.stored b.ready grows;
    ready =
        subst (λ n. IsReady (at + count) n) left
        (subst (λ n. IsReady (at + n) (length rest - n)) (sym (counted ∙ ap size_of most)) (ready_next at (length rest) b.ready));
    small = λ k. rw (behind, get_or-drop count rest k 0) (b.small (count + k));
    inside = omega (arith, fits, left, b.inside);
  }

-- nothing is left, or something is
pub none_left : (xs : List ℕ) → true ≡ (length xs == 0) → xs ≡ []
none_left xs h = nil_from_length xs (eqb-true (length xs) 0 (sym h))

pub some_left : (xs : List ℕ) → false ≡ (length xs == 0) → 1 ≤ length xs
some_left [] h = absurd cc
some_left (x ∷ xs) h = omega arith

pub all_stored : (start at : ℕ) (bytes rest old text : List ℕ) → Storing start at bytes rest old text → rest ≡ [] → GrowsByStores start bytes old text
all_stored start at bytes rest old text s end = (s.lines, s.whole, subst (λ l. Stores start l bytes) (append-nil s.lines) (s.goes_on [] end))

-- a line behind the stores
pub with_call : (address : ℕ) (bytes old mid new : List ℕ) (op : Op) → GrowsByStores address bytes old mid → GrowsBy op mid new
    → (stores : List (List ℕ)) × (line : List ℕ) × (new ≡ old ++ joined (stores ++ line ∷ [])) × Stores address stores bytes × IsLineOf line op
with_call address bytes old mid new op (lines, grew, stored) (line, more, is) = (
  lines,
  line,
  more ∙ ap (λ t. t ++ ended line) grew ∙ append_assoc old (joined lines) (ended line) ∙ ap (λ t. old ++ t) (sym (joined-push lines line)),
  stored,
  is,
)
