-- SPDX-License-Identifier: MIT OR Apache-2.0
-- A line as it stands in a trace.
use Rattle.std.specs.Prelude.{◌≡◌, ℕ, true, List, [], ◌∷◌, ◌++◌, Option}
use Rattle.play_trace.specs.TraceLines.{feed, is_good}

-- these bytes are a line that is taken in a trace of so many processors, or of one alone, and the LF that ends it
abbrev pub IsWhole : Option ℕ → List ℕ → Type 0
IsWhole processors bytes = (line : List ℕ) × (bytes ≡ line ++ feed ∷ []) × (is_good processors line ≡ true)
