-- SPDX-License-Identifier: MIT OR Apache-2.0
-- FOR PROOFS ALONE
-- The steps of a listener that checks guards, which private functions promise one another.
use Rattle.std.specs.Prelude.{◌≡◌, ◌⊎◌, ℕ, ◌+◌, ◌<◌, Bool, true, false, List, [], ◌∷◌, ◌++◌, Option, None, Some, bytes_eq, if◌then◌else◌}
use Rattle.ffa_model.specs.declared.operation.Op.{Op}
use Rattle.ffa_model.specs.declared.operation.Outcome.{Outcome}
use Rattle.ffa_playable.specs.Bench.{Bench, processors_of}
use Rattle.play_trace.specs.TraceLines.{Line, operate, words_of}
use Rattle.play_trace.specs.TraceText.{hex, line_after}
use Rattle.play_trace.specs.Lines.{outcome_of}
use Rattle.play_player.specs.declared.checking.GuardChecker.{GuardChecker}
use Rattle.play_player.specs.declared.guards.Asks.{Asks}
use Rattle.play_player.specs.declared.guards.Asks.TheVariants.{Printed, Runner}
use Rattle.play_player.specs.declared.guards.Breach.{Breach}
use Rattle.play_player.specs.declared.listening.Event.{Event}
use Rattle.play_player.specs.declared.patterns.Came.{Came}
use Rattle.play_player.specs.Guards.{guard_of, guards_among, lines_in, meets_first, speaks, told_first}
use Rattle.play_player.specs.Hints.{hint_of}
use Rattle.play_player.specs.Patterns.{check_of, line_came}

-- WORDS

-- a text is this word, or this word, a space, and the rest
abbrev pub AreWords : List ℕ → List ℕ → Option (List ℕ) → Type 0
AreWords text word None = words_of text ≡ word ∷ []
AreWords text word (Some rest) = words_of text ≡ word ∷ words_of rest

-- WHAT A LINE CAME TO

-- wherever an operation was done, where this came of it: the check is the one that refused it there
abbrev pub SaysCheck : Bench → Op → Option Outcome → Option ℕ → Type 0
SaysCheck now op outcome check =
    (start : Bench) → now ≡ line_after start (operate op) → outcome ≡ outcome_of start (operate op)
    → check ≡ check_of start op

-- what a line came to there, or what another did, where it says nothing
abbrev pub came_by : Bench → Line → Came → Came
came_by s line before = if speaks line then line_came s line else before

-- the same, wherever the line was done, where this came of it
abbrev pub SaysCame : Bench → Line → Option Outcome → Came → Came → Type 0
SaysCame now line outcome before came =
    (start : Bench) → now ≡ line_after start line → outcome ≡ outcome_of start line → came ≡ came_by start line before

-- WHAT IS ASKED

-- how many of the lines that are left a guard asks for
abbrev pub asked_by : Asks → ℕ
asked_by Printed = 1
asked_by Runner = 0

-- whether a guard is met there, where these lines are left of a text that came to this
abbrev pub is_met_by : Bench → Came → List (List ℕ) → Asks × List ℕ → Bool
is_met_by s came left (Printed, wants) = meets_first wants came left
is_met_by s came left (Runner, wants) = bytes_eq wants (hex 4 s.state.runner)

-- what it finds
abbrev pub found_by : Bench → Came → List (List ℕ) → Asks × List ℕ → List ℕ
found_by s came left (Printed, wants) = told_first wants came left
found_by s came left (Runner, wants) = hex 4 s.state.runner

abbrev pub IsAnswered : Bench → Came → List (List ℕ) → Asks × List ℕ → List ℕ → Bool → Type 0
IsAnswered s came left guard found met = (met ≡ is_met_by s came left guard) × (found ≡ found_by s came left guard)

-- a line was asked that is no guard or one that is met: nothing is told
pub record Passes {A : Type 0} (s : Bench) (event : Event) (old new : GuardChecker A) (stop : Option Breach) : Type 0 where
  pub met : (guard : Asks × List ℕ) → guard_of event.bytes.now ≡ Some guard
      → is_met_by s old.unasked.came (lines_in old.unasked.text.items) guard ≡ true
  pub counted : old.tally.met < event.number → new.tally.met ≡ old.tally.met + guards_among (event.bytes.now ∷ [])
  pub unmet : new.tally.unmet ≡ old.tally.unmet
  pub told : new.told ≡ old.told
  pub goes : stop ≡ None

-- it goes on at a guard, or stops
abbrev pub Fails : Bool → Breach → Option Breach → Type 0
Fails keep_going breach None = keep_going ≡ true
Fails keep_going breach (Some stop) = (keep_going ≡ false) × (stop ≡ breach)

-- a guard was asked that isn't met
pub record Misses {A : Type 0} (s : Bench) (event : Event) (old new : GuardChecker A) (stop : Option Breach) : Type 0 where
  pub asks : Asks
  pub wants : List ℕ
  pub guard : guard_of event.bytes.now ≡ Some (asks, wants)
  pub missed : is_met_by s old.unasked.came (lines_in old.unasked.text.items) (asks, wants) ≡ false
  pub met : new.tally.met ≡ old.tally.met
  pub unmet : new.tally.unmet.items ≡ old.tally.unmet.items ++ event.number ∷ []
  pub finds : new.found.items ≡ found_by s old.unasked.came (lines_in old.unasked.text.items) (asks, wants)
  pub goes : Fails old.keep_going (record {
    number = event.number;
    asks = asks;
    hint = hint_of (processors_of s) asks wants new.found.items old.unasked.printed;
  }) stop

abbrev pub IsChecked : {A : Type 0} → Bench → Event → (old new : GuardChecker A) → Option Breach → Type 0
IsChecked s event old new stop = Passes s event old new stop ⊎ Misses s event old new stop
