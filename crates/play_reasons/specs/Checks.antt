-- SPDX-License-Identifier: MIT OR Apache-2.0
-- The number of a check, as the manual lists the checks of each call.
use Rattle.std.specs.Prelude.{ℕ, ◌+◌, ◌==◌, List, position, Option}
use Rattle.std.specs.Option.{option_map}
use Rattle.ffa_model.specs.declared.refusal.Refusal.{Refusal}
use Rattle.ffa_model.specs.Checks.{checks_of}
use Rattle.ffa_model.specs.Words.{place_of}

-- the number of a check in a list, counted from 1
abbrev pub place_number : List Refusal → Refusal → Option ℕ
place_number list refusal = option_map (λ n. n + 1) (position (λ check. place_of check == place_of refusal) list)

abbrev pub number_of : ℕ → Refusal → Option ℕ
number_of function refusal = place_number (checks_of function) refusal
