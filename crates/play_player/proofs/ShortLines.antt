-- SPDX-License-Identifier: MIT OR Apache-2.0
-- In each form, also in a short one, what a line prints is lines.
use Rattle.std.proofs.Common.{◌≡◌, ℕ, true, false, List, [], ◌∷◌, ◌++◌, drop, Option, None, Some, inl, inr, sym, ap, ◌∙◌, append_assoc, refl, ◌==◌, codes, nat_lt, slice_index, flat_map}
use Rattle.std.specs.Option.{option_map_or}
use Rattle.std.proofs.lemmas.Bool.{cases_Bool, and_parts, and_from}
use Rattle.std.proofs.lemmas.List.Folds.{list_all-append}
use Rattle.ffa_model.specs.declared.operation.Outcome.{Outcome}
use Rattle.ffa_model.specs.declared.operation.Outcome.TheVariants.{Regs, Data, Done, Fault}
use Rattle.ffa_abi.specs.Names.{call_name_of, error_name_of}
use Rattle.ffa_playable.specs.Bench.{Bench}
use Rattle.play_trace.specs.TraceLines.{Line, feed, has_no_feed, joined}
use Rattle.play_trace.specs.TraceText.{ended, hex, line_text, spaced}
use Rattle.play_trace.specs.Lines.{outcome_of}
use Rattle.play_player.proofs.Runs.{joined-append}
use Rattle.play_reasons.specs.Reasons.{reason_if}
use Rattle.play_player.specs.Comparing.{AreRows}
use Rattle.play_player.specs.Cut.{CutsTo}
use Rattle.play_player.specs.Forms.{dressed, line_text_in, names_in, number_in}
use Rattle.play_player.specs.Short.{cut_zeros, filled, function_word, name_or, short_data, short_number, short_registers}
use Rattle.play_player.specs.declared.form.Form.{Form}
use Rattle.play_player.proofs.CutOff.{line_cuts, names_single, single_error}
use Rattle.play_player.proofs.Cuts.{front_single, inner_single}
use Rattle.play_player.proofs.PrintedWords.{inner_hex, single_call}
use Rattle.play_player.proofs.ReasonLines.{reason_cuts}

-- WORDS

single_append : (xs ys : List ℕ) → has_no_feed xs ≡ true → has_no_feed ys ≡ true → has_no_feed (xs ++ ys) ≡ true
single_append xs ys p q = list_all-append _ xs ys ∙ and_from _ _ p q

single_cut : (word : List ℕ) → has_no_feed word ≡ true → has_no_feed (cut_zeros word) ≡ true
single_cut (c ∷ d ∷ word) h =
    elim (cases_Bool (c == 48)) [
      | inl zero ↦ rw zero (single_cut (d ∷ word) (and_parts _ (has_no_feed (d ∷ word)) h).1)
      | inr other ↦ rw other h
    ]
single_cut _ h = h

single_number : (value : ℕ) → has_no_feed (short_number value) ≡ true
unfolding short_number
single_number value = single_cut (hex 16 value) (inner_single (hex 16 value) (inner_hex 16 value))

single_numbers : (x : List ℕ) → has_no_feed (flat_map (λ v. spaced (short_number v)) x) ≡ true
single_numbers [] = refl
single_numbers (v ∷ x) = single_append (spaced (short_number v)) (flat_map (λ w. spaced (short_number w)) x) (single_number v) (single_numbers x)

single_name : (name : Option (List ℕ)) (other : List ℕ) → option_map_or has_no_feed name true ≡ true → has_no_feed other ≡ true → has_no_feed (name_or name other) ≡ true
single_name None other p q = q
single_name (Some name) other p q = p

single_function : (x : List ℕ) → has_no_feed (function_word x) ≡ true
unfolding function_word
single_function x =
    let number = single_number (slice_index x 0) in
    elim (cases_Bool (nat_lt (slice_index x 0) 0xC0000000)) [
      | inl named ↦ rw named (single_name (call_name_of x) (short_number (slice_index x 0)) (single_call x) number)
      | inr wide ↦ rw wide number
    ]

single_registers : (runner : ℕ) (x : List ℕ) → has_no_feed (short_registers runner x) ≡ true
unfolding short_registers
single_registers runner x =
    single_append (hex 4 runner ++ codes ": " ++ function_word x) (flat_map (λ v. spaced (short_number v)) (filled (drop 1 x)))
    (single_append (hex 4 runner ++ codes ": ") (function_word x) (single_append (hex 4 runner) (codes ": ") (inner_single (hex 4 runner) (inner_hex 4 runner)) refl) (single_function x))
    (single_numbers (filled (drop 1 x)))

single_data : (value : ℕ) → has_no_feed (short_data value) ≡ true
unfolding short_data
single_data value = single_append (codes "data") (spaced (short_number value)) refl (single_number value)

single_names : (form : Form) (x : List ℕ) → has_no_feed (names_in form x) ≡ true
single_names form x =
    elim (cases_Bool form.names) [
      | inl asked ↦ rw asked (names_single (call_name_of x) (error_name_of x) (single_call x) (single_error x))
      | inr unasked ↦ rw unasked refl
    ]

-- ROWS

rows_of_cut : (text plain : List ℕ) → CutsTo text plain → AreRows text
rows_of_cut text plain cut = (cut.lines, cut.whole, cut.each)

rows_append : (a b : List ℕ) → AreRows a → AreRows b → AreRows (a ++ b)
rows_append a b p q = (
  p.0 ++ q.0,
  ap (λ t. t ++ b) p.1 ∙ ap (λ t. joined p.0 ++ t) q.1 ∙ sym (joined-append p.0 q.0),
  list_all-append has_no_feed p.0 q.0 ∙ and_from _ _ p.2 q.2,
)

-- a line with a number before it, in this form
rows_line : (form : Form) (n : ℕ) (line : List ℕ) → has_no_feed line ≡ true → AreRows (number_in form n ++ ended line)
rows_line form n line single = (
  (number_in form n ++ line) ∷ [],
  sym (append_assoc (number_in form n) line (feed ∷ [])),
  and_from _ _ (single_append (number_in form n) line (front_single form n) single) refl,
)

-- the same form with all digits
abbrev in_full : Form → Form
in_full form = record { number = form.number; names = form.names; explain = form.explain; short = false }

short_rows : (form : Form) (n : ℕ) → form.short ≡ true → (outcome : Option Outcome) (reason said : List ℕ) → AreRows (dressed (in_full form) n outcome reason said) → AreRows reason
    → AreRows (dressed form n outcome reason said)
short_rows form n short outcome reason [] rows told = rows
short_rows form n short None reason (c ∷ said) rows told = rows
short_rows form n short (Some (Regs runner x)) reason (c ∷ said) rows told =
    rw short
    (rows_append (number_in form n ++ ended (short_registers runner.0 x ++ names_in form x)) reason
    (rows_line form n (short_registers runner.0 x ++ names_in form x) (single_append (short_registers runner.0 x) (names_in form x) (single_registers runner.0 x) (single_names form x))) told)
short_rows form n short (Some (Data value)) reason (c ∷ said) rows told =
    rw short (rows_append (number_in form n ++ ended (short_data value)) reason (rows_line form n (short_data value) (single_data value)) told)
short_rows form n short (Some Done) reason (c ∷ said) rows told = rows
short_rows form n short (Some (Fault kind)) reason (c ∷ said) rows told = rows

pub line_rows : (form : Form) (n : ℕ) (s : Bench) (line : Line) → AreRows (line_text_in form n s line)
line_rows form n s line =
    elim (cases_Bool form.short) [
      | inl short ↦
          short_rows form n short (outcome_of s line) (reason_if form.explain s line) (line_text s line)
          (rows_of_cut _ _ (line_cuts (in_full form) refl n s (Some line))) (rows_of_cut _ [] (reason_cuts form.explain s line))
      | inr long ↦ rows_of_cut _ _ (line_cuts form long n s (Some line))
    ]
