-- SPDX-License-Identifier: MIT OR Apache-2.0
-- What a listener says that writes the text of each line and checks guards.
use Rattle.std.specs.Prelude.{◌≡◌, ℕ, ◌+◌, false, not, List, [], ◌∷◌, ◌++◌, length, Option, None, Some, Result, Ok, Err}
use Rattle.ffa_playable.specs.Bench.{Bench, processors_of}
use Rattle.play_trace.specs.declared.output.PlayError.{PlayError}
use Rattle.play_trace.specs.declared.output.PlayError.TheVariants.{Write}
use Rattle.play_player.specs.declared.checking.GuardChecker.{GuardChecker}
use Rattle.play_player.specs.declared.guards.Breach.{Breach}
use Rattle.play_player.specs.declared.tally.Tally.{Tally}
use Rattle.play_player.specs.Guards.{AreMet, IsFound, IsMet, IsUnasked, are_silent, guard_of, guards_among, lines_in, near_from}
use Rattle.play_player.specs.Hints.{hint_of}
use Rattle.play_player.specs.Past.{UnmetAmong}
use Rattle.play_player.specs.Printed.{PrintsLines}

-- A tally of these lines counts the guards that are met. It has the numbers of the lines of the other guards, and of the lines that
-- are nearly guards. If all guards are met, nothing was told.
pub record Counts {A : Type 0} (start : Bench) (lines : List (List ℕ)) (tally : Tally A) (before after : List ℕ) : Type 0 where
  pub guards : UnmetAmong start [] lines tally.unmet.items
  pub count : tally.met + length tally.unmet.items ≡ guards_among lines
  pub nears : tally.near.items ≡ near_from 1 lines
  pub quiet : tally.unmet.items ≡ [] → after ≡ before

-- A checker goes on after these lines. The text of each was written, and it keeps what no guard has asked for. If it stops at a guard
-- that isn't met, all guards of these lines are met.
pub record GoesOn {A : Type 0} (start : Bench) (lines : List (List ℕ)) (old new : GuardChecker A) (held holds : Option (List ℕ))
    : Type 0 where
  pub form : new.form ≡ old.form
  pub goes : new.keep_going ≡ old.keep_going
  pub counts : Counts start lines new.tally old.told.items new.told.items
  pub strict : old.keep_going ≡ false → new.tally.unmet.items ≡ []
  pub written : PrintsLines {Stop = Breach} old.form start lines held holds (Ok None)
  pub unasked : IsUnasked start lines new.unasked.came (lines_in new.unasked.text.items)
  pub printed : new.unasked.printed ≡ not (are_silent (processors_of start) lines)

-- It stops at the last of these lines, which is the one guard that isn't met. The text of the lines before it was written.
pub record StopsAt {A : Type 0} (start : Bench) (lines : List (List ℕ)) (old new : GuardChecker A) (held holds : Option (List ℕ))
    (breach : Breach) : Type 0 where
  pub counts : Counts start lines new.tally old.told.items new.told.items
  pub strict : old.keep_going ≡ false
  pub front : List (List ℕ)
  pub last : List ℕ
  pub whole : lines ≡ front ++ last ∷ []
  pub written : PrintsLines {Stop = Breach} old.form start front held holds (Ok None)
  pub met : AreMet start front
  pub wants : List ℕ
  pub guard : guard_of last ≡ Some (breach.asks, wants)
  pub unmet : IsMet start front (breach.asks, wants) → ⊥
  pub is_next : breach.number ≡ 1 + length front
  pub finds : IsFound start front (breach.asks, wants) new.found.items
  pub hints : breach.hint ≡ hint_of (processors_of start) breach.asks wants new.found.items (not (are_silent (processors_of start) front))

-- what a checker says of the lines that it heard
abbrev pub ChecksLines : {A : Type 0} → Bench → List (List ℕ) → (old new : GuardChecker A) → (held holds : Option (List ℕ))
    → Result (Option Breach) PlayError → Type 0
ChecksLines start lines old new held holds (Ok None) = GoesOn start lines old new held holds
ChecksLines start lines old new held holds (Ok (Some breach)) = StopsAt start lines old new held holds breach
ChecksLines start lines old new held holds (Err Write) =
    PrintsLines {Stop = Breach} old.form start lines held holds (Err Write)
    × Counts start lines new.tally old.told.items new.told.items
    × (old.keep_going ≡ false → new.tally.unmet.items ≡ [])
ChecksLines start lines old new held holds (Err other) = ⊥
