-- SPDX-License-Identifier: MIT OR Apache-2.0
-- What a call of another endpoint tells.
use Rattle.std.proofs.Common.{◌≡◌, ℕ, true, false, List, [], ◌∷◌, ◌++◌, Option, Some, None, refl, ◌==◌, Bool}
use Rattle.ffa_model.specs.declared.operation.ErrorCode.{ErrorCode}
use Rattle.ffa_model.specs.State.{State}
use Rattle.ffa_model.specs.Calls.{Service, answered, encode, first_failure, served}
use Rattle.ffa_model.specs.RunStates.{schedule_of}
use Rattle.ffa_laws.specs.View.{view}
use Rattle.ffa_laws.specs.Events.{Event, Message, apply_all, public_change, switches, where_passed, where_true}
use Rattle.ffa_laws.proofs.Changes.{other-changed, own-same, unwritten}

-- nothing has changed
pub other-same : (e : ℕ) (s : State) → view e s ≡ apply_all e (view e s) (public_change s s)
other-same e s = other-changed e s s.pages s.buffers (schedule_of s) [] (unwritten s.pages) refl (own-same e s) refl

-- a call of another endpoint, where no guard fails
abbrev pub IsTold : ℕ → State → Service → List Event → Type 0
IsTold e s c told = first_failure c.guards ≡ None → view e c.state ≡ apply_all e (view e s) (told ++ public_change s c.state)

-- a refusal tells nothing
pub served-other : (e : ℕ) (s : State) (c : Service) (told : List Event) → IsTold e s c told
    → view e (served s c).state ≡ apply_all e (view e s) (where_passed (first_failure c.guards) told ++ public_change s (served s c).state)
served-other e s c told change = go (first_failure c.guards) change
  where
    go : (g : Option ErrorCode) → (g ≡ None → view e c.state ≡ apply_all e (view e s) (told ++ public_change s c.state))
        → view e (answered g s c.state c.reply).state ≡ apply_all e (view e s) (where_passed g told ++ public_change s (answered g s c.state c.reply).state)
    go None change = change refl
    go (Some code) change = other-same e s

-- that e runs changes nothing that e knows but the public part
pub switches-applied : (e : ℕ) (v : State) (c : Service) → apply_all e v (switches e c) ≡ v
switches-applied e v c = go (c.state.runner == e)
  where
    go : (b : Bool) → apply_all e v (where_true b (Message (encode c.reply) ∷ [])) ≡ v
    go true = refl
    go false = refl
