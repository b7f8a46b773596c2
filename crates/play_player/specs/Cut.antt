-- SPDX-License-Identifier: MIT OR Apache-2.0
-- A text without the numbers, the names and the reasons that a form writes into it.
use Rattle.std.specs.Prelude.{◌≡◌, ℕ, ◌+◌, Bool, true, ◌&&◌, List, [], ◌∷◌, codes, filter, map, not, drop, nat_eq, nat_le, if◌then◌else◌}
use Rattle.std.specs.List.{list_all, prefix_len, starts_with}
use Rattle.ffa_model.specs.Manifest.{is_from_to}
use Rattle.play_trace.specs.TraceLines.{has_no_feed, joined}
use Rattle.play_reasons.specs.Reasons.{reason_mark}

-- a decimal digit
abbrev pub is_digit : ℕ → Bool
is_digit c = is_from_to 48 57 c

-- the digits at the front are cut off with the `: ` behind them, where both are there
abbrev pub cut_number : List ℕ → List ℕ
cut_number line =
    let count = prefix_len is_digit line in
    if nat_le 1 count && starts_with nat_eq (drop count line) (codes ": ") then drop (count + 2) line else line

-- the first ` #` is cut off, with all that stands behind it
abbrev pub cut_names : List ℕ → List ℕ
cut_names [] = []
cut_names (c ∷ line) = if starts_with nat_eq (c ∷ line) (codes " #") then [] else c ∷ cut_names line

-- a printed line, without the LF that ends it
abbrev pub cut_line : List ℕ → List ℕ
cut_line line = cut_names (cut_number line)

-- a line that says why an operation is refused
abbrev pub is_reason : List ℕ → Bool
is_reason line = starts_with nat_eq line reason_mark

-- The second text is the first without its lines that say why an operation is refused, and with each of the others cut.
-- No line has an LF, so the lines of a text are these and no others.
pub record CutsTo (text plain : List ℕ) : Type 0 where
  pub lines : List (List ℕ)
  pub each : list_all has_no_feed lines ≡ true
  pub whole : text ≡ joined lines
  pub cut : plain ≡ joined (map cut_line (filter (λ line. not (is_reason line)) lines))
