-- SPDX-License-Identifier: MIT OR Apache-2.0
-- What may be done next, whoever does it. Each law of one operation has one form, for a move.
use Rattle.std.specs.Prelude.{Bool, List}
use Rattle.ffa_model.specs.declared.call.Call as calls
use Rattle.ffa_model.specs.Numbers.{Identifier}
use Rattle.ffa_model.specs.State.{State}
use Rattle.ffa_laws.specs.Events.{Event}

-- What is done in a state. Who does it is the actor, and runs in `from`.
pub record Move (Result : Type 0) : Type 0 where
  -- the state as the actor sees it
  pub from : State
  -- whether it is a call that is served, of which a test holds
  pub asks : (calls.Call → Bool) → Bool
  -- the state and the result that it leads to
  pub after : State
  pub result : Result
  -- what it tells each endpoint
  pub told : Identifier → List Event
