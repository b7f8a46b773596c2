-- SPDX-License-Identifier: MIT OR Apache-2.0
-- What is told of guards.
use Rattle.std.specs.Prelude.{ℕ, List, ◌++◌, codes, decimal, flat_map}
use Rattle.play_trace.specs.TraceText.{ended}

-- the comment in the line of this number is nearly a guard
abbrev pub near_line : ℕ → List ℕ
near_line number =
    codes "ffaplay: line " ++ (decimal number ++ ended (codes ": not a guard: remove the space after #"))

abbrev pub near_text : List ℕ → List ℕ
near_text numbers = flat_map near_line numbers

-- so many guards were met
abbrev pub met_text : ℕ → List ℕ
met_text met = codes "ffaplay: guards passed: " ++ ended (decimal met)

-- so many weren't
abbrev pub unmet_text : ℕ → List ℕ
unmet_text unmet = codes "ffaplay: guards failed: " ++ ended (decimal unmet)
