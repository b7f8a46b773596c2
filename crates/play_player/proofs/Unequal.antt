-- SPDX-License-Identifier: MIT OR Apache-2.0
-- The lines of given bytes are unique, so a text that differs is no text of theirs.
use Rattle.std.proofs.Common.{◌≡◌, ℕ, ◌+◌, true, List, [], ◌∷◌, ◌++◌, length, Option, None, Some, sym, ap, ◌∙◌, arith, append_assoc, length-append, refl, IfSome}
use Rattle.std.specs.Io.KnownBytes.{Consumes}
use Rattle.std.proofs.lemmas.Bool.{and_parts}
use Rattle.std.proofs.lemmas.List.{append_cancel_left}
use Rattle.ffa_playable.specs.Bench.{Bench, processors_of}
use Rattle.play_trace.specs.TraceLines.{feed, has_no_feed, is_good, is_line, are_lines, joined}
use Rattle.play_trace.specs.TraceText.{after, after_all}
use Rattle.play_player.proofs.Runs.{joined-append}
use Rattle.std.specs.Io.BufRead.{take_through}
use Rattle.std.specs.List.{list_all}
use Rattle.play_player.specs.Compared.{NeverPrints, PartsFrom, next_row}
use Rattle.play_player.proofs.Rows.{no_row, parts_each, take_row}
use Rattle.play_player.specs.Forms.{text_in, text_of_in}
use Rattle.play_player.specs.Reading.{IsAll}
use Rattle.play_player.specs.declared.form.Form.{Form}
use Rattle.play_player.proofs.TextLines.{line_same}

line_single : (processors : Option ℕ) (line : List ℕ) (lines : List (List ℕ)) → are_lines processors (line ∷ lines) ≡ true → has_no_feed line ≡ true
line_single processors line lines each =
    (and_parts (has_no_feed line) (is_good processors line) (and_parts (is_line processors line) (are_lines processors lines) each).0).0

-- lines that begin as these do
same_lines : (processors : Option ℕ) (lines others : List (List ℕ)) (rest : List ℕ) → are_lines processors lines ≡ true → are_lines processors others ≡ true → joined lines ++ rest ≡ joined others
    → (more : List (List ℕ)) × (others ≡ lines ++ more) × (rest ≡ joined more)
same_lines processors [] others rest p q same = (others, refl, same)
same_lines processors (line ∷ lines) [] rest p q same =
    absurd (omega (arith, ap length same, length-append (line ++ feed ∷ joined lines) rest, length-append line (feed ∷ joined lines)))
same_lines processors (line ∷ lines) (other ∷ others) rest p q same =
    let both = line_same line other (joined lines ++ rest) (joined others) (line_single processors line lines p) (line_single processors other others q) (sym (append_assoc line (feed ∷ joined lines) rest) ∙ same) in
    let next = same_lines processors lines others rest (and_parts (is_line processors line) (are_lines processors lines) p).1 (and_parts (is_line processors other) (are_lines processors others) q).1 both.1 in
    (next.0, ap (λ l. l ∷ others) (sym both.0) ∙ ap (λ ls. line ∷ ls) next.1, next.2)

text_in-append : (form : Form) (n : ℕ) (s : Bench) (lines more : List (List ℕ)) → text_in form n s (lines ++ more) ≡ text_in form n s lines ++ text_in form (n + length lines) (after_all s lines) more
text_in-append form n s [] more = ap (λ k. text_in form k s more) (omega arith)
text_in-append form n s (line ∷ lines) more =
    let count : n + 1 + length lines ≡ n + length (line ∷ lines) = omega arith in
    ap (λ t. text_of_in form n s line ++ t) (text_in-append form (n + 1) (after s line) lines more)
    ∙ sym (append_assoc (text_of_in form n s line) (text_in form (n + 1) (after s line) lines) _)
    ∙ ap (λ k. text_in form n s (line ∷ lines) ++ text_in form k (after_all s (line ∷ lines)) more) count

-- what is read next of an expected text that goes on with these rows is the next of them
reads_next : (behind : List (List ℕ)) (rest : List ℕ) → list_all has_no_feed behind ≡ true → (behind ≡ [] → rest ≡ []) → take_through feed (joined behind ++ rest) ≡ next_row behind
reads_next [] rest each none = ap (take_through feed) (none refl)
reads_next (row ∷ rows) rest each none =
    ap (take_through feed) (append_assoc row (feed ∷ joined rows) rest) ∙ take_row row (joined rows ++ rest) (and_parts (has_no_feed row) (list_all has_no_feed rows) each).0

-- an expected text that begins with these rows, and goes on with others and a rest, is read so
goes_on : (expected text more rest : List ℕ) (rows behind : List (List ℕ)) → expected ≡ text ++ rest → text ≡ joined (rows ++ behind) → expected ≡ joined rows ++ more → more ≡ joined behind ++ rest
goes_on expected text more rest rows behind is whole alike =
    append_cancel_left (joined rows) more (joined behind ++ rest)
    (sym alike ∙ is ∙ ap (λ t. t ++ rest) (whole ∙ joined-append rows behind) ∙ append_assoc (joined rows) (joined behind) rest)

-- where the text of the first lines of a trace differs, none of the lines that its bytes can be print what is expected
pub never_prints : (form : Form) (start : Bench) (had wants : Option (List ℕ)) (lines : List (List ℕ)) (rest wanted : List ℕ) → are_lines (processors_of start) lines ≡ true → IsAll had (joined lines ++ rest)
    → (p : PartsFrom wants (text_in form 1 start lines) wanted) → (p.behind ≡ [] → rest ≡ []) → NeverPrints form start had wants
never_prints form start None wants lines rest wanted each all p last = tt
never_prints form start (Some trace) None lines rest wanted each all p last = tt
never_prints form start (Some trace) (Some expected) lines rest wanted each all p last = λ others each_other told same. of p.more p.alike p.next others each_other told same
  where
    of : (more : Option (List ℕ)) → Consumes (Some expected) more (joined p.rows) → IfSome more (λ bytes. wanted ≡ take_through feed bytes)
        → (others : List (List ℕ)) → are_lines (processors_of start) others ≡ true → trace ≡ joined others → text_in form 1 start others ≡ expected → ⊥
    of None alike next others each_other told same = absurd alike
    of (Some more) alike next others each_other told same =
        let found = same_lines (processors_of start) lines others rest each each_other (sym all ∙ told) in
        let tail = text_in form (1 + length lines) (after_all start lines) found.0 in
        let prints : expected ≡ text_in form 1 start lines ++ tail = sym same ∙ ap (text_in form 1 start) found.1 ∙ text_in-append form 1 start lines found.0 in
        let is : more ≡ joined p.behind ++ tail = goes_on expected (text_in form 1 start lines) more tail p.rows p.behind prints p.whole alike in
        let ends : p.behind ≡ [] → tail ≡ [] = λ none. ap (text_in form (1 + length lines) (after_all start lines)) (no_row found.0 (sym found.2 ∙ last none)) in
        p.other (next ∙ ap (take_through feed) is ∙ reads_next p.behind tail (parts_each p.rows p.behind p.each).1 ends)
