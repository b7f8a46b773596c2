-- SPDX-License-Identifier: MIT OR Apache-2.0
-- The line and the column behind one byte more.
use Rattle.std.proofs.Common.{◌≡◌, ℕ, ◌+◌, ◌<◌, Bool, true, false, ◌||◌, List, [], ◌∷◌, ◌++◌, length, take, get_or, refl, ap, ◌∙◌, arith, count_by, if◌then◌else◌}
use Rattle.std.specs.List.{list_any}
use Rattle.std.proofs.lemmas.List.{take_more}
use Rattle.std.proofs.lemmas.List.Sums.{count_by_more_no, count_by_more_yes, sum_by-append}
use Rattle.ffa_manifest.specs.TextPlaces.{column_behind, is_first_byte, is_line_end, last_line, line_behind}

any-behind : (bs : List ℕ) (c : ℕ) → list_any is_line_end (bs ++ c ∷ []) ≡ (list_any is_line_end bs || is_line_end c)
any-behind [] c = of (is_line_end c)
  where
    of : (t : Bool) → (t || false) ≡ t
    of true = refl
    of false = refl
any-behind (b ∷ bs) c = ap (λ t. is_line_end b || t) (any-behind bs c) ∙ of (is_line_end b) (list_any is_line_end bs) (is_line_end c)
  where
    of : (s t u : Bool) → (s || (t || u)) ≡ ((s || t) || u)
    of true t u = refl
    of false t u = refl

or-true : (s t : Bool) → (s || (t || true)) ≡ true
or-true true t = refl
or-true false true = refl
or-true false false = refl

or-false : (s t : Bool) → (s || (t || false)) ≡ (s || t)
or-false true t = refl
or-false false true = refl
or-false false false = refl

-- nothing stands behind an LF
last-ended : (bs : List ℕ) (c : ℕ) → is_line_end c ≡ true → last_line (bs ++ c ∷ []) ≡ []
last-ended [] c ends = ap (λ (t : Bool). if t || false then [] else c ∷ []) ends
last-ended (b ∷ bs) c ends =
    ap (λ (t : Bool). if t then last_line (bs ++ c ∷ []) else b ∷ (bs ++ c ∷ []))
    (ap (λ t. is_line_end b || t) (any-behind bs c ∙ ap (λ t. list_any is_line_end bs || t) ends) ∙ or-true (is_line_end b) (list_any is_line_end bs))
    ∙ last-ended bs c ends

-- another byte stands at the end of the last line
last-goes-on : (bs : List ℕ) (c : ℕ) → is_line_end c ≡ false → last_line (bs ++ c ∷ []) ≡ last_line bs ++ c ∷ []
last-goes-on [] c goes = ap (λ (t : Bool). if t || false then [] else c ∷ []) goes
last-goes-on (b ∷ bs) c goes =
    ap (λ (t : Bool). if t then last_line (bs ++ c ∷ []) else b ∷ (bs ++ c ∷ []))
    (ap (λ t. is_line_end b || t) (any-behind bs c ∙ ap (λ t. list_any is_line_end bs || t) goes) ∙ or-false (is_line_end b) (list_any is_line_end bs))
    ∙ of (is_line_end b || list_any is_line_end bs) (last-goes-on bs c goes)
  where
    of : (t : Bool) → last_line (bs ++ c ∷ []) ≡ last_line bs ++ c ∷ []
        → (if t then last_line (bs ++ c ∷ []) else b ∷ (bs ++ c ∷ [])) ≡ (if t then last_line bs else b ∷ bs) ++ c ∷ []
    of true on = on
    of false on = refl

module _ (text : List ℕ) (i : ℕ) (within : i < length text) where
  abbrev byte : ℕ
  byte = get_or text i 0

  more : take (i + 1) text ≡ take i text ++ byte ∷ []
  more = take_more text i 0 within

  pub line-ended : is_line_end byte ≡ true → line_behind (take (i + 1) text) ≡ line_behind (take i text) + 1
  line-ended ends = ap (λ n. 1 + n) (count_by_more_yes is_line_end text i 0 within ends) ∙ omega arith

  pub line-stays : is_line_end byte ≡ false → line_behind (take (i + 1) text) ≡ line_behind (take i text)
  line-stays goes = ap (λ n. 1 + n) (count_by_more_no is_line_end text i 0 within goes)

  pub column-begins : is_line_end byte ≡ true → column_behind (take (i + 1) text) ≡ 1
  column-begins ends = ap (λ bs. 1 + count_by is_first_byte bs) (ap last_line more ∙ last-ended (take i text) byte ends)

  column-more : is_line_end byte ≡ false → column_behind (take (i + 1) text) ≡ column_behind (take i text) + count_by is_first_byte (byte ∷ [])
  column-more goes =
      ap (λ bs. 1 + count_by is_first_byte bs) (ap last_line more ∙ last-goes-on (take i text) byte goes)
      ∙ (ap (λ n. 1 + n) (sum_by-append (λ x. if is_first_byte x then 1 else 0) (last_line (take i text)) (byte ∷ [])) ∙ omega arith)

  pub column-on : is_line_end byte ≡ false → is_first_byte byte ≡ true → column_behind (take (i + 1) text) ≡ column_behind (take i text) + 1
  column-on goes first = column-more goes ∙ ap (λ n. column_behind (take i text) + n) (count_by_more_yes is_first_byte (byte ∷ []) 0 0 (omega arith) first)

  pub column-stays : is_line_end byte ≡ false → is_first_byte byte ≡ false → column_behind (take (i + 1) text) ≡ column_behind (take i text)
  column-stays goes later =
      column-more goes ∙ (ap (λ n. column_behind (take i text) + n) (count_by_more_no is_first_byte (byte ∷ []) 0 0 (omega arith) later) ∙ omega arith)
