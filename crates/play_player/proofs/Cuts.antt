-- SPDX-License-Identifier: MIT OR Apache-2.0
-- What is left of a line, and of texts one behind the other, when numbers and names are cut off and reasons left out.
use Rattle.std.proofs.Common.{◌≡◌, ℕ, suc, zero, ◌+◌, ◌/◌, ◌%◌, ◌<◌, ◌≤◌, Bool, true, false, List, [], ◌∷◌, ◌++◌, length, map, drop, inl, inr, sym, ap, ◌∙◌, subst, arith, append_assoc, refl, ◌==◌, ◌&&◌, not, codes, decimal, filter, nat_eq}
use Rattle.std.specs.Fmt.{digits, digits_onto, digit_glyph}
use Rattle.std.specs.List.{list_all, flat_map, prefix_len, starts_with}
use Rattle.std.proofs.lemmas.Bool.{cases_Bool, and_parts, and_from, and_left, and_right, not-true, leb-true, le-leb, lt-ltb, ne_eqb}
use Rattle.std.proofs.lemmas.List.{map-append}
use Rattle.std.proofs.lemmas.List.Elements.{filter-append}
use Rattle.std.proofs.lemmas.List.Folds.{list_all-append}
use Rattle.std.proofs.Math.Seq.{drop-append_seam, drop-append-add}
use Rattle.play_trace.specs.TraceLines.{feed, hash, has_no_feed, joined}
use Rattle.play_trace.specs.TraceText.{ended}
use Rattle.play_player.proofs.Runs.{joined-append}
use Rattle.play_player.specs.Cut.{CutsTo, is_digit, is_reason, cut_number, cut_names, cut_line}
use Rattle.play_player.specs.Forms.{number_in, plain}
use Rattle.play_player.specs.declared.form.Form.{Form}

-- a byte that stands in the words of a printed line
abbrev pub is_inner : ℕ → Bool
is_inner c = not (c == feed) && not (c == hash)

abbrev pub IsInner : List ℕ → Type 0
IsInner words = list_all is_inner words ≡ true

-- neither a digit nor a `#` begins the line
abbrev pub is_headed : List ℕ → Bool
is_headed [] = true
is_headed (c ∷ line) = not (is_digit c) && not (c == hash)

pub inner_append : (xs ys : List ℕ) → IsInner xs → IsInner ys → IsInner (xs ++ ys)
inner_append xs ys p q = list_all-append is_inner xs ys ∙ and_from _ _ p q

pub inner_flat_map : {X : Type 0} (f : X → List ℕ) → ((x : X) → IsInner (f x)) → (xs : List X) → IsInner (flat_map f xs)
inner_flat_map f each [] = refl
inner_flat_map f each (x ∷ xs) = inner_append (f x) (flat_map f xs) (each x) (inner_flat_map f each xs)

pub inner_above : (c : ℕ) → 36 ≤ c → is_inner c ≡ true
inner_above c high = rw (ne_eqb c 10 (λ same. omega arith), ne_eqb c 35 (λ same. omega arith)) refl

pub inner_single : (words : List ℕ) → IsInner words → has_no_feed words ≡ true
inner_single [] h = refl
inner_single (c ∷ words) h =
    let parts = and_parts _ _ h in
    and_from _ _ (and_parts _ _ parts.0).0 (inner_single words parts.1)

pub digits_single : (ds : List ℕ) → list_all is_digit ds ≡ true → has_no_feed ds ≡ true
digits_single [] h = refl
digits_single (d ∷ ds) h =
    let parts = and_parts _ _ h in
    let high = leb-true 48 d (and_parts _ _ parts.0).0 in
    and_from _ _ (rw (ne_eqb d 10 (λ same. omega arith)) refl) (digits_single ds parts.1)

-- NUMBERS

glyph_digit : (n : ℕ) → is_digit (digit_glyph false (n % 10)) ≡ true
glyph_digit n =
    let few : n % 10 < 10 = omega arith in
    rw (lt-ltb (n % 10) 10 few) (and_from _ _ (le-leb 48 (48 + n % 10) (omega arith)) (le-leb (48 + n % 10) 57 (omega arith)))

onto_digits : (k n : ℕ) (more : List ℕ) → list_all is_digit more ≡ true → list_all is_digit (digits_onto k 10 false n more) ≡ true
onto_digits zero n more h = h
onto_digits (suc k) n more h =
    let one : list_all is_digit (digit_glyph false (n % 10) ∷ more) ≡ true = and_from _ _ (glyph_digit n) h in
    elim (cases_Bool (n / 10 == 0)) [
      | inl last ↦ rw last one
      | inr goes_on ↦ rw goes_on (onto_digits k (n / 10) _ one)
    ]

onto_some : (k n : ℕ) (more : List ℕ) → 1 ≤ length more → 1 ≤ length (digits_onto k 10 false n more)
onto_some zero n more h = h
onto_some (suc k) n more h =
    elim (cases_Bool (n / 10 == 0)) [
      | inl last ↦ rw last (omega arith)
      | inr goes_on ↦ rw goes_on (onto_some k (n / 10) _ (omega arith))
    ]

onto_first : (k n : ℕ) → 1 ≤ length (digits_onto (suc k) 10 false n [])
onto_first k n =
    elim (cases_Bool (n / 10 == 0)) [
      | inl last ↦ rw last (omega arith)
      | inr goes_on ↦ rw goes_on (onto_some k (n / 10) _ (omega arith))
    ]

pub decimal_digits : (n : ℕ) → list_all is_digit (decimal n) ≡ true
unfolding digits
decimal_digits n = onto_digits 64 n [] refl

decimal_some : (n : ℕ) → 1 ≤ length (decimal n)
unfolding digits
decimal_some n = onto_first 63 n

prefix_len-digits : (ds line : List ℕ) → list_all is_digit ds ≡ true → prefix_len is_digit (ds ++ (codes ": " ++ line)) ≡ length ds
prefix_len-digits [] line h = refl
prefix_len-digits (d ∷ ds) line h =
    let parts = and_parts (is_digit d) (list_all is_digit ds) h in
    let more = prefix_len-digits ds line parts.1 in
    rw parts.0 (omega (arith, more))

cut_at : (line rest : List ℕ) (n : ℕ) → prefix_len is_digit line ≡ n → 1 ≤ n → drop n line ≡ codes ": " ++ rest → drop (n + 2) line ≡ rest → cut_number line ≡ rest
cut_at line rest n count some at behind = rw (count, le-leb 1 n some, at, behind) refl

cut_number-mark : (ds line : List ℕ) → list_all is_digit ds ≡ true → 1 ≤ length ds → cut_number (ds ++ (codes ": " ++ line)) ≡ line
cut_number-mark ds line h some =
    cut_at _ line (length ds) (prefix_len-digits ds line h) some (drop-append_seam ds (codes ": " ++ line)) (drop-append-add ds (codes ": " ++ line) 2)

prefix_len-headed : (line : List ℕ) → is_headed line ≡ true → prefix_len is_digit line ≡ 0
prefix_len-headed [] h = refl
prefix_len-headed (c ∷ line) h = rw (not-true (is_digit c) (and_parts (not (is_digit c)) (not (c == hash)) h).0) refl

cut_number-headed : (line : List ℕ) → is_headed line ≡ true → cut_number line ≡ line
cut_number-headed line h = rw (prefix_len-headed line h) refl

cut_number-front : (form : Form) (n : ℕ) (line : List ℕ) → is_headed line ≡ true → cut_number (number_in form n ++ line) ≡ line
cut_number-front form n line h =
    elim (cases_Bool form.number) [
      | inl asked ↦ rw asked (ap cut_number (append_assoc (decimal n) (codes ": ") line) ∙ cut_number-mark (decimal n) line (decimal_digits n) (decimal_some n))
      | inr plain ↦ rw plain (cut_number-headed line h)
    ]

pub front_single : (form : Form) (n : ℕ) → has_no_feed (number_in form n) ≡ true
front_single form n =
    elim (cases_Bool form.number) [
      | inl asked ↦ rw asked (list_all-append _ (decimal n) (codes ": ") ∙ and_from _ _ (digits_single (decimal n) (decimal_digits n)) refl)
      | inr plain ↦ rw plain refl
    ]

-- NAMES

-- no ` #` begins where no `#` follows
no_mark : (c d : ℕ) (line : List ℕ) → is_inner d ≡ true → starts_with nat_eq (c ∷ d ∷ line) (codes " #") ≡ false
no_mark c d line h = and_right (nat_eq 32 c) _ (and_left (nat_eq 35 d) _ (ne_eqb 35 d other))
  where
    other : 35 ≡ d → ⊥
    other same =
        let hashed : is_inner d ≡ false = ap is_inner (sym same) in
        absurd cc

pub cut_names-inner : (words : List ℕ) → IsInner words → cut_names words ≡ words
cut_names-inner [] h = refl
cut_names-inner (c ∷ []) h = rw (and_right (nat_eq 32 c) false refl) refl
cut_names-inner (c ∷ d ∷ words) h =
    let parts = and_parts (is_inner c) (is_inner d && list_all is_inner words) h in
    rw (no_mark c d words (and_parts (is_inner d) (list_all is_inner words) parts.1).0) (ap (λ l. c ∷ l) (cut_names-inner (d ∷ words) parts.1))

pub cut_names-mark : (words names : List ℕ) → IsInner words → cut_names (words ++ (codes " #" ++ names)) ≡ words
cut_names-mark [] names h = refl
cut_names-mark (c ∷ []) names h = rw (and_right (nat_eq 32 c) false refl) refl
cut_names-mark (c ∷ d ∷ words) names h =
    let parts = and_parts (is_inner c) (is_inner d && list_all is_inner words) h in
    rw (no_mark c d (words ++ (codes " #" ++ names)) (and_parts (is_inner d) (list_all is_inner words) parts.1).0) (ap (λ l. c ∷ l) (cut_names-mark (d ∷ words) names parts.1))

-- REASONS

-- a line that doesn't begin with `#` says no reason
unreasoned : (c : ℕ) (line : List ℕ) → (35 ≡ c → ⊥) → is_reason (c ∷ line) ≡ false
unreasoned c line other = and_left (nat_eq 35 c) _ (ne_eqb 35 c other)

unreasoned_headed : (line : List ℕ) → is_headed line ≡ true → is_reason line ≡ false
unreasoned_headed [] h = refl
unreasoned_headed (c ∷ line) h = unreasoned c line other
  where
    other : 35 ≡ c → ⊥
    other same =
        let hashed : not (c == hash) ≡ false = ap (λ d. not (d == hash)) (sym same) in
        absurd (cc (and_parts (not (is_digit c)) (not (c == hash)) h).1)

unreasoned_digits : (ds line : List ℕ) → list_all is_digit ds ≡ true → 1 ≤ length ds → is_reason (ds ++ line) ≡ false
unreasoned_digits [] line h some = absurd (omega arith)
unreasoned_digits (d ∷ ds) line h some =
    let high = leb-true 48 d (and_parts _ _ (and_parts (is_digit d) (list_all is_digit ds) h).0).0 in
    unreasoned d (ds ++ line) (λ same. omega arith)

unreasoned_front : (form : Form) (n : ℕ) (line : List ℕ) → is_headed line ≡ true → is_reason (number_in form n ++ line) ≡ false
unreasoned_front form n line h =
    elim (cases_Bool form.number) [
      | inl asked ↦ rw asked (ap is_reason (append_assoc (decimal n) (codes ": ") line) ∙ unreasoned_digits (decimal n) (codes ": " ++ line) (decimal_digits n) (decimal_some n))
      | inr plain ↦ rw plain (unreasoned_headed line h)
    ]

-- the lines that say no reason
abbrev pub others : List (List ℕ) → List (List ℕ)
others lines = filter (λ line. not (is_reason line)) lines

-- TEXTS

pub cuts_none : CutsTo [] []
cuts_none = record { lines = []; each = refl; whole = refl; cut = refl }

pub cuts_append : (a b c d : List ℕ) → CutsTo a b → CutsTo c d → CutsTo (a ++ c) (b ++ d)
cuts_append a b c d p q = record {
  lines = p.lines ++ q.lines;
  each = list_all-append has_no_feed p.lines q.lines ∙ and_from _ _ p.each q.each;
  whole = ap (λ t. t ++ c) p.whole ∙ ap (λ t. joined p.lines ++ t) q.whole ∙ sym (joined-append p.lines q.lines);
  cut =
      ap (λ t. t ++ d) p.cut ∙ ap (λ t. joined (map cut_line (others p.lines)) ++ t) q.cut
      ∙ sym (joined-append (map cut_line (others p.lines)) (map cut_line (others q.lines)))
      ∙ ap joined (sym (map-append cut_line (others p.lines) (others q.lines)) ∙ ap (map cut_line) (sym (filter-append (λ line. not (is_reason line)) p.lines q.lines)));
}

pub cuts_flat_map : {X : Type 0} (f : X → List ℕ) → ((x : X) → CutsTo (f x) (f x)) → (xs : List X) → CutsTo (flat_map f xs) (flat_map f xs)
cuts_flat_map f each [] = cuts_none
cuts_flat_map f each (x ∷ xs) = cuts_append (f x) (f x) (flat_map f xs) (flat_map f xs) (each x) (cuts_flat_map f each xs)

-- a line with a number before it, in this form
pub cuts_line : (form : Form) (n : ℕ) (line words : List ℕ) → has_no_feed line ≡ true → is_headed line ≡ true → cut_names line ≡ words
    → CutsTo (number_in form n ++ ended line) (ended words)
cuts_line form n line words single headed cut = record {
  lines = (number_in form n ++ line) ∷ [];
  each = and_from _ _ (list_all-append _ (number_in form n) line ∙ and_from _ _ (front_single form n) single) refl;
  whole = sym (append_assoc (number_in form n) line (feed ∷ []));
  cut = rw (unreasoned_front form n line headed) (ap ended (sym cut ∙ ap cut_names (sym (cut_number-front form n line headed))));
}

-- a line of a reason alone, of which nothing is left
pub cuts_reason : (line : List ℕ) → has_no_feed line ≡ true → is_reason line ≡ true → CutsTo (ended line) []
cuts_reason line single reason = record { lines = line ∷ []; each = and_from _ _ single refl; whole = refl; cut = rw reason refl }

-- a line of words alone
pub cuts_words : (words : List ℕ) → IsInner words → is_headed words ≡ true → CutsTo (ended words) (ended words)
cuts_words words inner headed = cuts_line plain 0 words words (inner_single words inner) headed (cut_names-inner words inner)

-- lines of which the first has a number before it
pub cuts_first : (form : Form) (n : ℕ) (words more : List ℕ) → IsInner words → is_headed words ≡ true → CutsTo more more
    → CutsTo (number_in form n ++ (ended words ++ more)) (ended words ++ more)
cuts_first form n words more inner headed rest =
    subst (λ t. CutsTo t (ended words ++ more)) (append_assoc (number_in form n) (ended words) more)
    (cuts_append _ (ended words) more more (cuts_line form n words words (inner_single words inner) headed (cut_names-inner words inner)) rest)
