-- SPDX-License-Identifier: MIT OR Apache-2.0
-- Which of the guards among lines aren't met.
use Rattle.std.specs.Prelude.{◌≡◌, ◌⊎◌, ℕ, ◌+◌, List, [], ◌∷◌, ◌++◌, length, Some}
use Rattle.ffa_playable.specs.Bench.{Bench}
use Rattle.play_player.specs.declared.guards.Asks.{Asks}
use Rattle.play_player.specs.Guards.{IsMet, guard_of}

-- a line behind these lines is no guard that isn't met, or is one
abbrev pub IsKept : Bench → List (List ℕ) → List ℕ → Type 0
IsKept start front line = (guard : Asks × List ℕ) → guard_of line ≡ Some guard → IsMet start front guard

abbrev pub IsBroken : Bench → List (List ℕ) → List ℕ → Type 0
IsBroken start front line = (guard : Asks × List ℕ) × (guard_of line ≡ Some guard) × (IsMet start front guard → ⊥)

-- of the lines behind `front` these are the numbers of those guards that aren't met, in order: all others are met
abbrev pub UnmetAmong : Bench → (front lines : List (List ℕ)) → List ℕ → Type 0
UnmetAmong start front [] numbers = numbers ≡ []
UnmetAmong start front (line ∷ lines) numbers =
    (IsKept start front line × UnmetAmong start (front ++ line ∷ []) lines numbers)
    ⊎ (IsBroken start front line
    × ((more : List ℕ) × (numbers ≡ (1 + length front) ∷ more) × UnmetAmong start (front ++ line ∷ []) lines more))
