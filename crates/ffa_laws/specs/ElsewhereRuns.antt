-- SPDX-License-Identifier: MIT OR Apache-2.0
-- The laws of a list of operations, each of the endpoint beside it, whoever runs.
use Rattle.std.specs.Prelude.{◌≡◌, ℕ, ◌==◌, Bool, true, List, [], ◌∷◌, ◌++◌, map, if◌then◌else◌}
use Rattle.std.specs.List.{list_all}
use Rattle.ffa_model.specs.declared.operation.Op.{Op}
use Rattle.ffa_model.specs.declared.operation.Outcome.{Outcome}
use Rattle.ffa_model.specs.Numbers.{Identifier}
use Rattle.ffa_model.specs.State.{State, is_known}
use Rattle.ffa_model.specs.Elsewhere.{state_after_as, step_as}
use Rattle.ffa_laws.specs.Steady.{IsSteady}
use Rattle.ffa_laws.specs.View.{view}
use Rattle.ffa_laws.specs.Events.{Item, Own, Told, messages}
use Rattle.ffa_laws.specs.Elsewhere.{events_as}

-- each operation is of an endpoint of the machine
abbrev pub are_known : State → List (ℕ × Op) → Bool
are_known s xs = list_all (λ (x : ℕ × Op). is_known s x.0) xs

-- e's own operations and the events towards e, in order
abbrev pub items_as : Identifier → State → List (ℕ × Op) → List Item
items_as e s [] = []
items_as e s (x ∷ xs) =
    (if x.0 == e then Own x.1 ∷ [] else map (λ event. Told event) (events_as e s x.0 x.1))
    ++ items_as e (step_as s x.0 x.1).state xs

-- the outcomes of e's operations, and the registers by which another's operation made e run
abbrev pub seen_as : Identifier → State → List (ℕ × Op) → List Outcome
seen_as e s [] = []
seen_as e s (x ∷ xs) =
    (if x.0 == e then (step_as s x.0 x.1).outcome ∷ [] else messages e (events_as e s x.0 x.1))
    ++ seen_as e (step_as s x.0 x.1).state xs

-- what e sees of a run, and its view after it, depend on its view at the start, its own operations and the events towards it
-- alone
abbrev pub IsolatedAs : State → List (ℕ × Op) → Type 0
IsolatedAs s xs =
    (e : ℕ) (t : State) (others : List (ℕ × Op)) → is_known s e ≡ true → are_known t others ≡ true → IsSteady t
    → view e t ≡ view e s
    → items_as e t others ≡ items_as e s xs
    → (seen_as e t others ≡ seen_as e s xs) × (view e (state_after_as t others) ≡ view e (state_after_as s xs))
