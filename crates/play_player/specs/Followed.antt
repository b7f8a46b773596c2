-- SPDX-License-Identifier: MIT OR Apache-2.0
-- FOR PROOFS ALONE
-- What a play line by line leaves.
use Rattle.std.specs.Prelude.{◌≡◌, ℕ, ◌+◌, true, false, List, length, Option}
use Rattle.std.specs.Io.KnownBytes.{Consumes}
use Rattle.ffa_playable.specs.Bench.{Bench, processors_of}
use Rattle.play_trace.specs.TraceLines.{are_lines, joined}
use Rattle.play_trace.specs.TraceText.{after_all, text}
use Rattle.play_player.specs.declared.form.Form.{Form}
use Rattle.play_player.specs.Cut.{CutsTo}
use Rattle.play_player.specs.Forms.{text_in}
use Rattle.play_player.specs.Reading.{IsBadLine}

-- What follows speaks of what is played on before and now (`start`, `now`), of what was unread in the reader before
-- and after, and of what the writer held before, and holds.

-- these lines were read and done, and this is their text, of which the plain text is left when numbers and names are
-- cut off, unless it is short
pub record Followed (form : Form) (start now : Bench) (had has : Option (List ℕ)) (lines : List (List ℕ))
    (printed : List ℕ) : Type 0 where
  pub each : are_lines (processors_of start) lines ≡ true
  pub read : Consumes had has (joined lines)
  pub state : now ≡ after_all start lines
  pub said : printed ≡ text_in form 1 start lines
  pub cut : form.short ≡ false → CutsTo printed (text start lines)

-- These lines were done, and nothing more: the one behind them is bad. Its number is this, and its bytes are these.
pub record EndsBadly (form : Form) (start now : Bench) (had : Option (List ℕ)) (text bytes : List ℕ) (number : ℕ)
    : Type 0 where
  pub left : Option (List ℕ)
  pub lines : List (List ℕ)
  pub followed : Followed form start now had left lines text
  pub is_next : number ≡ 1 + length lines
  pub bad : IsBadLine (processors_of start) left bytes
