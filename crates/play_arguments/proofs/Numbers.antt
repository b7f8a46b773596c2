-- SPDX-License-Identifier: MIT OR Apache-2.0
-- Numbers, as the library reads them.
use Rattle.std.proofs.Common.{◌≡◌, ◌^◌, ℕ, Bool, true, false, List, [], ◌∷◌, Result, Ok, Err, None, Some, refl, ap, subst, sym, ◌∙◌, ◌<◌, ◌≤◌, inl, inr, arith, ◌&&◌, ◌==◌, codes, length, nat_eq, nat_lt}
use Rattle.std.proofs.lemmas.Bool.{eqb-true, false≢true, ltb-true, lt-ltb, cases_Bool}
use Rattle.std.specs.Char.{digit_value}
use Rattle.std.specs.List.{list_all, position_or_len, starts_with}
use Rattle.std.specs.Result.{OkIff, result_ok}
use Rattle.std.specs.Str.Parse.{AllDigits, IsNumeral, ParsesUnsigned, digits_value, without_leading_plus}
use Rattle.clap.proofs.WalkLemmas.{both}
use Rattle.play_arguments.specs.Commands.{are_digits, numeral_of}

digits_from : (base : ℕ) (ds : List ℕ) → list_all (λ d. nat_lt (digit_value d) base) ds ≡ true → AllDigits base ds
digits_from base [] e = tt
digits_from base (d ∷ ds) e =
    let parts = both _ _ e in
    (ltb-true _ _ parts.0, digits_from base ds parts.1)

digits_back : (base : ℕ) (ds : List ℕ) → AllDigits base ds → list_all (λ d. nat_lt (digit_value d) base) ds ≡ true
digits_back base [] h = refl
digits_back base (d ∷ ds) h = rw (lt-ltb (digit_value d) base h.0) (digits_back base ds h.1)

-- a text that no plus begins is its own digits
abbrev pub has_sign : List ℕ → Bool
has_sign text = starts_with nat_eq text (codes "+")

without_plus : (c : ℕ) (text : List ℕ) → (c == 43) ≡ false → without_leading_plus (c ∷ text) ≡ c ∷ text
without_plus c text e = rw e refl

with_plus : (text : List ℕ) → has_sign (43 ∷ text) ≡ true
with_plus [] = refl
with_plus (c ∷ text) = refl

unsigned : (text : List ℕ) → has_sign text ≡ false → without_leading_plus text ≡ text
unsigned [] e = refl
unsigned (c ∷ text) e =
    elim (cases_Bool (c == 43)) [
      | inl plus ↦ absurd (false≢true (sym (subst (λ d. has_sign (d ∷ text) ≡ false) (eqb-true _ _ plus) e) ∙ with_plus text))
      | inr other ↦ without_plus c text other
    ]

-- what is read in a base is the number that its digits write, and nothing else is read
read_number : {E : Type 0} (base : ℕ) (text : List ℕ) (r : Result ℕ E)
    → OkIff r (IsNumeral base text × (digits_value base text < 2 ^ 64)) (digits_value base text) → result_ok r ≡ numeral_of base text
read_number base text (Ok n) (numeral, is) =
    rw (lt-ltb 0 (length text) numeral.0.0, digits_back base text numeral.0.1, lt-ltb _ _ numeral.1) (ap Some is)
read_number base text (Err e) never =
    let test = are_digits base text && nat_lt (digits_value base text) (2 ^ 64) in
    elim (cases_Bool test) [
      | inl passes ↦
          let parts = both _ _ passes in
          let numeral = both _ _ parts.0 in
          absurd (never ((ltb-true _ _ numeral.0, digits_from base text numeral.1), ltb-true _ _ parts.1))
      | inr fails ↦ rw fails refl
    ]

pub parsed_number : {E : Type 0} (base : ℕ) (text : List ℕ) (r : Result ℕ E) → has_sign text ≡ false → ParsesUnsigned 64 base text r
    → result_ok r ≡ numeral_of base text
parsed_number base text r unsaid parses =
    read_number base text r
    (subst (λ ds. OkIff r (IsNumeral base ds × (digits_value base ds < 2 ^ 64)) (digits_value base ds)) (unsigned text unsaid) parses)

-- a sign is no digit
unread : (base : ℕ) (text : List ℕ) → nat_lt (digit_value 43) base ≡ false → None ≡ numeral_of base (43 ∷ text)
unread base text above =
    let some : 0 < length (43 ∷ text) = omega arith in
    rw (lt-ltb 0 (length (43 ∷ text)) some, above) refl

pub signed_number : (base : ℕ) (text : List ℕ) → nat_lt (digit_value 43) base ≡ false → has_sign text ≡ true → None ≡ numeral_of base text
signed_number base [] above e = absurd (false≢true e)
signed_number base (c ∷ text) above e =
    let plus : 43 ≡ c = eqb-true _ _ (both _ _ e).0 in
    subst (λ d. None ≡ numeral_of base (d ∷ text)) plus (unread base text above)

-- behind 0x the digits begin at the third byte: its x is the first
at_mark : (c d : ℕ) (text : List ℕ) → 48 ≡ c → 120 ≡ d → position_or_len (λ x. x == 120) (c ∷ d ∷ text) ≡ 1
at_mark c d text zero x = subst (λ c. position_or_len (λ x. x == 120) (c ∷ d ∷ text) ≡ 1) zero
    (subst (λ d. position_or_len (λ x. x == 120) (48 ∷ d ∷ text) ≡ 1) x refl)

pub behind_mark : (text : List ℕ) → starts_with nat_eq text (codes "0x") ≡ true
    → (position_or_len (λ x. x == 120) text ≡ 1) × (2 ≤ length text)
behind_mark [] e = absurd (false≢true e)
behind_mark (c ∷ []) e = absurd (false≢true (both _ _ e).1)
behind_mark (c ∷ d ∷ text) e =
    let one = both _ _ e in
    let two = both _ _ one.1 in
    (at_mark c d text (eqb-true _ _ one.0) (eqb-true _ _ two.0), omega arith)
