-- SPDX-License-Identifier: MIT OR Apache-2.0
-- What is counted of lines, one after another.
use Rattle.std.proofs.Common.{◌≡◌, ◌+◌, ◌∙◌, ℕ, List, [], ◌∷◌, ◌++◌, length, Option, Some, Err, ap, refl, sym}
use Rattle.std.specs.Option.{option_map_or}
use Rattle.ffa_playable.specs.Bench.{Bench, processors_of}
use Rattle.play_trace.specs.TraceLines.{Line, line_in}
use Rattle.play_trace.specs.TraceText.{after, after_all}
use Rattle.play_trace.specs.declared.output.PlayError.{PlayError}
use Rattle.play_trace.specs.declared.output.PlayError.TheVariants.{Read, Write, NoMemory, BadLine}
use Rattle.play_player.specs.Followed.{Followed}
use Rattle.play_player.specs.Forms.{plain}
use Rattle.play_player.specs.Reading.{TakesLine}
use Rattle.play_player.proofs.Behind.{meant-behind}
use Rattle.play_generator.specs.Counting.{Tally}
use Rattle.play_commands.specs.Counted.{CountsTrace, counted, counted_of, line_counted}

-- a line more
counted_one : (s : Bench) (lines : List (List ℕ)) (line : List ℕ) (t : Tally)
    → counted s (lines ++ line ∷ []) t ≡ counted_of (after_all s lines) line (counted s lines t)
counted_one s [] line t = refl
counted_one s (l ∷ ls) line t = counted_one (after s l) ls line (counted_of s l t)

module _ (start mid : Bench) (had has : Option (List ℕ)) (lines : List (List ℕ)) (text : List ℕ) (f : Followed plain start mid had has lines text) (old t : Tally) (so_far : t ≡ counted start lines old) where
  pub counted_more : (bytes : List ℕ) (line : Line) (new : Tally) → Some line ≡ line_in (processors_of start) bytes → new ≡ line_counted mid line t
      → new ≡ counted start (lines ++ bytes ∷ []) old
  unfolding counted_of
  counted_more bytes line new is counts =
      let own : line_counted mid line t ≡ counted_of mid bytes t =
      ap (λ l. option_map_or (λ line. line_counted mid line t) l t) (meant-behind start mid lines f.state bytes (Some line) is) in
      counts ∙ own ∙ ap (λ s. counted_of s bytes t) f.state ∙ ap (counted_of (after_all start lines) bytes) so_far ∙ sym (counted_one start lines bytes old)

  -- what was read isn't taken
  pub counts_untaken : (e : PlayError) (number : ℕ) (then : Option (List ℕ)) (bytes : List ℕ) → number ≡ 1 + length lines → TakesLine (processors_of start) has then bytes number (Err e)
      → CountsTrace start had old t (Err e)
  counts_untaken Read number then bytes count read = (lines, (f.each, (has, f.read)), so_far)
  counts_untaken Write number then bytes count never = absurd never
  counts_untaken NoMemory number then bytes count none = tt
  counts_untaken (BadLine n) number then bytes count (is, bad) =
      (lines, record { left = has; bytes = bytes; each = f.each; read = f.read; number = is ∙ count; bad = bad }, so_far)
