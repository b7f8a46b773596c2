-- SPDX-License-Identifier: MIT OR Apache-2.0
-- The form of a call: guards, and a change where none fails.
use Rattle.std.proofs.Common.{◌≡◌, ◌∙◌, ℕ, Bool, true, false, List, [], ◌∷◌, ◌++◌, Option, Some, None, refl, ap}
use Rattle.ffa_model.specs.declared.operation.ErrorCode.{ErrorCode}
use Rattle.ffa_model.specs.declared.operation.Outcome.{Outcome}
use Rattle.ffa_model.specs.declared.operation.FaultKind.{FaultKind}
use Rattle.ffa_model.specs.State.{State, version_of}
use Rattle.ffa_model.specs.Buffers.{with_rx}
use Rattle.ffa_model.specs.RunStates.{finished, keeps_rx, msg_wait, schedule_of, waited, with_schedule}
use Rattle.ffa_model.specs.Calls.{Service, Stepped, answered, first_failure, replied, served}
use Rattle.ffa_model.specs.Memory.{accessed}
use Rattle.ffa_laws.specs.View.{view}
use Rattle.ffa_model.specs.declared.refusal.Refusal.{Refusal}

abbrev pub viewed : ℕ → Stepped → Stepped
viewed e st = record { state = view e st.state; outcome = st.outcome }

pub same_step : (s t : Stepped) → s.state ≡ t.state → s.outcome ≡ t.outcome → s ≡ t
same_step s t a b = λ i. record { state = a i; outcome = b i }

-- A call in the runner's view: its guards give the same failure, and where none fails it leaves the view of the state that it
-- leaves, with the same reply.
abbrev pub IsOwn : State → Service → Service → Type 0
IsOwn s seen c =
    (first_failure seen.guards ≡ first_failure c.guards)
    × (first_failure c.guards ≡ None → (seen.state ≡ view s.runner c.state) × (seen.reply ≡ c.reply))

pub served-own : (s : State) (seen c : Service) → IsOwn s seen c → served (view s.runner s) seen ≡ viewed s.runner (served s c)
served-own s seen c own = ap (λ g. answered g (view s.runner s) seen.state seen.reply) own.0 ∙ go (first_failure c.guards) own.1
  where
    go : (g : Option ErrorCode) → (g ≡ None → (seen.state ≡ view s.runner c.state) × (seen.reply ≡ c.reply))
        → answered g (view s.runner s) seen.state seen.reply ≡ viewed s.runner (answered g s c.state c.reply)
    go None change = λ i. replied ((change refl).0 i) ((change refl).1 i)
    go (Some code) change = refl

-- what holds of a state holds after a call, where it holds of the state that the call leaves
pub served-kept : (P : State → Type 0) (s : State) (c : Service) → P s → (first_failure c.guards ≡ None → P c.state) → P (served s c).state
served-kept P s c old change = go (first_failure c.guards) change
  where
    go : (g : Option ErrorCode) → (g ≡ None → P c.state) → P (answered g s c.state c.reply).state
    go None change = change refl
    go (Some code) change = old

-- what holds of a state in which the caller waits, with its RX as it is and with an empty one, holds after FFA_MSG_WAIT
pub waited-kept : (P : State → Type 0) (s : State) (flags : ℕ) → P (with_schedule s (finished (schedule_of s) 0))
    → P (with_rx (with_schedule s (finished (schedule_of s) 0)) s.runner false) → P (msg_wait s flags).state
waited-kept P s flags kept emptied = elim (keeps_rx (version_of s s.runner) flags) as (λ b. P (waited s b)) [ true ↦ kept | false ↦ emptied ]

pub waited-runs : (s : State) (flags : ℕ) → schedule_of (msg_wait s flags).state ≡ finished (schedule_of s) 0
waited-runs s flags = waited-kept (λ t. schedule_of t ≡ finished (schedule_of s) 0) s flags refl refl

-- an access, alike
pub accessed-own : (e : ℕ) (s new seen : State) (outcome told : Outcome) (failure guessed : Option FaultKind) → guessed ≡ failure
    → (failure ≡ None → (seen ≡ view e new) × (told ≡ outcome))
    → accessed guessed (view e s) seen told ≡ viewed e (accessed failure s new outcome)
accessed-own e s new seen outcome told failure guessed same change =
    ap (λ g. accessed g (view e s) seen told) same ∙ go failure change
  where
    go : (g : Option FaultKind) → (g ≡ None → (seen ≡ view e new) × (told ≡ outcome)) → accessed g (view e s) seen told ≡ viewed e (accessed g s new outcome)
    go None change = same_step _ _ (change refl).0 (change refl).1
    go (Some fault) change = refl

pub accessed-kept : (P : State → Type 0) (s new : State) (outcome : Outcome) (failure : Option FaultKind) → P s → (failure ≡ None → P new) → P (accessed failure s new outcome).state
accessed-kept P s new outcome None old change = change refl
accessed-kept P s new outcome (Some fault) old change = old

-- guards that agree until one fails
pub same-first : (passes : Bool) (code : Refusal) (xs ys : List (Bool × Refusal)) → (passes ≡ true → first_failure xs ≡ first_failure ys)
    → first_failure ((passes, code) ∷ xs) ≡ first_failure ((passes, code) ∷ ys)
same-first true code xs ys same = same refl
same-first false code xs ys same = refl

-- guards that agree behind one that passes
pub same-later : (code : Refusal) (before : List (Bool × Refusal)) (passes : Bool) (xs ys : List (Bool × Refusal)) → (passes ≡ true → first_failure xs ≡ first_failure ys)
    → first_failure (before ++ (passes, code) ∷ xs) ≡ first_failure (before ++ (passes, code) ∷ ys)
same-later code [] passes xs ys same = same-first passes code xs ys same
same-later code ((test, other) ∷ before) passes xs ys same = same-first test other (before ++ (passes, code) ∷ xs) (before ++ (passes, code) ∷ ys) (λ is. same-later code before passes xs ys same)
