-- SPDX-License-Identifier: MIT OR Apache-2.0
-- The laws of a list of operations and interrupts of several processors, while endpoints store.
use Rattle.std.specs.Prelude.{◌≡◌, ℕ, ◌==◌, Bool, true, false, ◌&&◌, nat_lt, List, [], ◌∷◌, ◌++◌, length, map, if◌then◌else◌}
use Rattle.std.specs.List.{list_all}
use Rattle.ffa_model.specs.declared.operation.Act.{Act}
use Rattle.ffa_model.specs.declared.operation.Act.TheVariants.{Operate, Interrupt}
use Rattle.ffa_model.specs.declared.operation.Effect.{Effect}
use Rattle.ffa_model.specs.declared.operation.Effect.TheVariants as effects
use Rattle.ffa_model.specs.declared.operation.Op.{Op}
use Rattle.ffa_model.specs.declared.operation.Op.TheVariants.{Store}
use Rattle.ffa_model.specs.declared.operation.Outcome.{Outcome}
use Rattle.ffa_model.specs.Elsewhere.{step_as}
use Rattle.ffa_model.specs.Numbers.{Identifier}
use Rattle.ffa_model.specs.Processors.{ArePlaced, Shared, shared_after, state_on, step_resuming}
use Rattle.ffa_model.specs.SoundState.{IsSoundState}
use Rattle.ffa_model.specs.State.{State, is_known}
use Rattle.ffa_laws.specs.View.{view}
use Rattle.ffa_laws.specs.Events.{Event, Item, Own, Told, messages, public_change}
use Rattle.ffa_laws.specs.Elsewhere.{events_as}
use Rattle.ffa_laws.specs.Processors.{HasRunner, events_resuming, interrupt_events}
use Rattle.ffa_laws.specs.Steady.{IsSteady}

-- it is sound, and its processors and its state fit together
pub record IsSoundShared (m : Shared) : Type 0 where
  pub state : IsSoundState m.state
  pub placed : ArePlaced m.processors m.state

-- what isolation asks of its state and of who runs on its processors: less than that it is sound
pub record IsSteadyShared (m : Shared) : Type 0 where
  pub state : IsSteady m.state
  pub runners : (p : ℕ) → HasRunner m.processors p m.state

-- what is done next: an act of a processor, or a store of an endpoint, whoever runs
pub data Turn : Type 0 where
  Acts : (p : ℕ) (act : Act) → Turn
  Writes : (e : ℕ) (op : Op) → Turn

abbrev pub turn_after : Shared → Turn → Shared
turn_after m (Acts p act) = shared_after m (p, act)
turn_after m (Writes e op) = record m { state = (step_as m.state e op).state }

abbrev pub turns_after : Shared → List Turn → Shared
turns_after m [] = m
turns_after m (x ∷ xs) = turns_after (turn_after m x) xs

abbrev pub is_store : Op → Bool
is_store (Store address size value) = true
is_store op = false

-- there is this processor, or there is this endpoint, and it stores
abbrev pub is_possible : Shared → Turn → Bool
is_possible m (Acts p act) = nat_lt p (length m.processors.runners)
is_possible m (Writes e op) = is_known m.state e && is_store op

abbrev pub are_possible : Shared → List Turn → Bool
are_possible m xs = list_all (is_possible m) xs

-- acts alone, and stores alone
abbrev pub as_turns : List (ℕ × Act) → List Turn
as_turns xs = map (λ (x : ℕ × Act). Acts x.0 x.1) xs

abbrev pub as_writes : List (ℕ × Op) → List Turn
as_writes xs = map (λ (x : ℕ × Op). Writes x.0 x.1) xs

abbrev pub told : List Event → List Item
told es = map (λ event. Told event) es

-- an operation of e is its own, and of all else it is told
abbrev pub items_of : Identifier → State → Act → List Item
items_of e s (Operate op) = if s.runner == e then Own op ∷ [] else told (events_resuming e s op)
items_of e s Interrupt = told (interrupt_events e s)

-- e's own operation, or the events of a turn towards e: who runs as each processor sees it is told to all
abbrev pub items_in : Identifier → Shared → Turn → List Item
items_in e m (Acts p act) = told (public_change m.state (state_on m p)) ++ items_of e (state_on m p) act
items_in e m (Writes f op) = if f == e then Own op ∷ [] else told (events_as e m.state f op)

-- e's own operations and the events towards e, in order
abbrev pub items_on : Identifier → Shared → List Turn → List Item
items_on e m [] = []
items_on e m (x ∷ xs) = items_in e m x ++ items_on e (turn_after m x) xs

abbrev pub outcomes_of : List Outcome → List Effect
outcomes_of os = map (λ outcome. effects.Outcome outcome) os

-- what e's operations come to, and the registers by which another's operation or an interrupt made e run
abbrev pub seen_of : Identifier → State → Act → List Effect
seen_of e s (Operate op) = if s.runner == e then (step_resuming s op).effect ∷ [] else outcomes_of (messages e (events_resuming e s op))
seen_of e s Interrupt = outcomes_of (messages e (interrupt_events e s))

abbrev pub seen_in : Identifier → Shared → Turn → List Effect
seen_in e m (Acts p act) = seen_of e (state_on m p) act
seen_in e m (Writes f op) =
    outcomes_of (if f == e then (step_as m.state f op).outcome ∷ [] else messages e (events_as e m.state f op))

abbrev pub seen_on : Identifier → Shared → List Turn → List Effect
seen_on e m [] = []
seen_on e m (x ∷ xs) = seen_in e m x ++ seen_on e (turn_after m x) xs

-- What e sees of a run of all processors, and its view after it, depend on its view at the start, its own operations and the
-- events towards it alone.
abbrev pub IsolatedOn : Shared → List Turn → Type 0
IsolatedOn m xs =
    (e : ℕ) (t : Shared) (others : List Turn) → is_known m.state e ≡ true → IsSteadyShared t → are_possible t others ≡ true
    → view e t.state ≡ view e m.state
    → items_on e t others ≡ items_on e m xs
    → (seen_on e t others ≡ seen_on e m xs) × (view e (turns_after t others).state ≡ view e (turns_after m xs).state)
