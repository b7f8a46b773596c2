-- SPDX-License-Identifier: MIT OR Apache-2.0
-- A run as one endpoint lives it: its own operations and the events towards it, done on its view alone.
use Rattle.std.specs.Prelude.{◌≡◌, ℕ, true, List, [], ◌∷◌, ◌++◌}
use Rattle.ffa_model.specs.declared.operation.Op.{Op}
use Rattle.ffa_model.specs.declared.operation.Outcome.{Outcome}
use Rattle.ffa_model.specs.Numbers.{Identifier}
use Rattle.ffa_model.specs.State.{State, is_known}
use Rattle.ffa_model.specs.Step.{state_after, step}
use Rattle.ffa_laws.specs.View.{view}
use Rattle.ffa_laws.specs.Events.{Item, Own, Told, apply, items, message, seen}

-- what an endpoint sees of a run, and its view after it
pub record Lived : Type 0 where
  pub seen : List Outcome
  pub view : State

abbrev pub seeing : List Outcome → Lived → Lived
seeing outcomes after = record after { seen = outcomes ++ after.seen }

-- Items done on a view in turn: an operation of e's own is a step of the view itself, and an event is applied to it.
abbrev pub replay : Identifier → State → List Item → Lived
replay e v [] = record { seen = []; view = v }
replay e v (Own op ∷ rest) = seeing ((step v op).outcome ∷ []) (replay e (step v op).state rest)
replay e v (Told event ∷ rest) = seeing (message e event) (replay e (apply e v event) rest)

-- what e sees of a run that begins in s, and its view of the state after it
abbrev pub lived : Identifier → State → List Op → Lived
lived e s ops = record { seen = seen e s ops; view = view e (state_after s ops) }

-- A run is to an endpoint its items, replayed on its view: nothing else of the state and of the operations counts.
abbrev pub Replays : State → List Op → Type 0
Replays s ops = (e : ℕ) → is_known s e ≡ true → lived e s ops ≡ replay e (view e s) (items e s ops)
