-- SPDX-License-Identifier: MIT OR Apache-2.0
-- What is written of a trace whose text is printed in a form.
use Rattle.std.specs.Prelude.{◌≡◌, false, List, ℕ, Option, Result}
use Rattle.ffa_playable.specs.Bench.{Bench}
use Rattle.play_trace.specs.TraceText.{text}
use Rattle.play_trace.specs.declared.output.PlayError.{PlayError}
use Rattle.play_player.specs.Cut.{CutsTo}
use Rattle.play_player.specs.Forms.{text_in}
use Rattle.play_player.specs.Listening.{WritesEach}
use Rattle.play_player.specs.declared.form.Form.{Form}

-- The text of each of these lines was written in this form. The plain text is left when numbers and names are cut off, unless
-- the text is short.
abbrev pub PrintsLines : {Stop : Type 0} → Form → Bench → List (List ℕ) → (held holds : Option (List ℕ))
    → Result (Option Stop) PlayError → Type 0
PrintsLines form start lines held holds result =
    WritesEach (text_in form 1 start) lines held holds result
    × (form.short ≡ false → CutsTo (text_in form 1 start lines) (text start lines))
