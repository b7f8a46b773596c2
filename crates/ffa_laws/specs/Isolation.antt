-- SPDX-License-Identifier: MIT OR Apache-2.0
-- The laws over the small machine: isolation, rights that never grow, integrity.
use Rattle.std.specs.Prelude.{◌≡◌, ◌≢◌, ℕ, ◌==◌, Bool, true, false, ◌&&◌, List, [], ◌∷◌, ◌++◌, Option, None, is_none, is_some, if◌then◌else◌}
use Rattle.std.specs.Option.{option_map_or}
use Rattle.ffa_model.specs.Numbers.{Identifier, PageIndex}
use Rattle.ffa_model.specs.Lists.{is_in_run}
use Rattle.ffa_model.specs.declared.operation.Op.{Op}
use Rattle.ffa_model.specs.declared.operation.Outcome.{Outcome}
use Rattle.ffa_model.specs.declared.operation.Outcome.TheVariants.{Regs}
use Rattle.ffa_model.specs.declared.call.Call as calls
use Rattle.ffa_model.specs.declared.call.Call.TheVariants.{MsgSend2}
use Rattle.ffa_model.specs.Rights.{is_within}
use Rattle.ffa_model.specs.State.{State, Transaction, Buffers, page_at, owner_of, buffers_of, is_known, own_right_of}
use Rattle.ffa_model.specs.Access.{access, handle_at, transaction_at}
use Rattle.ffa_model.specs.Memory.{page_bytes}
use Rattle.ffa_model.specs.Calls.{first_failure}
use Rattle.ffa_model.specs.Messages.{header_in, msg_send2, tx_bytes}
use Rattle.ffa_model.specs.Step.{outcomes, state_after}
use Rattle.ffa_laws.specs.Steady.{IsSteady, is_joint}
use Rattle.ffa_laws.specs.View.{view}
use Rattle.ffa_laws.specs.Events.{apply_all, items, seen}
use Rattle.ffa_laws.specs.Move.{Move}

-- ISOLATION

-- One move: what another endpoint learns is in its events, and the actor's result and its view afterwards depend on its
-- view before alone.
pub record OneStep {Result : Type 0} (m : State → Move Result) (s : State) : Type 0 where
  pub others : (e : ℕ) → is_known s e ≡ true → (m s).from.runner ≢ e
      → view e (m s).after ≡ apply_all e (view e s) ((m s).told e)
  pub outcome : (t : State) → IsSteady t → view (m s).from.runner t ≡ view (m s).from.runner s → (m t).result ≡ (m s).result
  pub own : (t : State) → IsSteady t → view (m s).from.runner t ≡ view (m s).from.runner s
      → view (m s).from.runner (m t).after ≡ view (m s).from.runner (m s).after

-- who runs after an outcome
abbrev pub runner_after : ℕ → Outcome → ℕ
runner_after r (Regs runner x) = runner.0
runner_after r outcome = r

-- of the outcomes of a run that r begins, those of e's operations and those that make e run
abbrev pub shown_to : Identifier → ℕ → List Outcome → List Outcome
shown_to e r [] = []
shown_to e r (outcome ∷ rest) =
    (if r == e then outcome ∷ [] else if runner_after r outcome == e then outcome ∷ [] else [])
    ++ shown_to e (runner_after r outcome) rest

-- what e sees of a run is in the outcomes that the run fills in
abbrev pub Shown : State → List Op → Type 0
Shown s ops = (e : ℕ) → shown_to e s.runner (outcomes s ops) ≡ seen e s ops

-- what e sees of a run, and its view after it, depend on its view at the start, its own operations and the events towards
-- it alone
abbrev pub Isolated : State → List Op → Type 0
Isolated s ops =
    (e : ℕ) (t : State) (others : List Op) → is_known s e ≡ true → IsSteady t → view e t ≡ view e s
    → items e t others ≡ items e s ops
    → (seen e t others ≡ seen e s ops) × (view e (state_after t others) ≡ view e (state_after s ops))

-- RIGHTS THAT NEVER GROW

abbrev pub is_joint_at : Option Transaction → Bool
is_joint_at t = option_map_or is_joint t false

-- from one state to a later one
pub record NeverGrow (s t : State) : Type 0 where
  pub own_right : (p : ℕ) → is_within (own_right_of t p) (own_right_of s p) ≡ true
  pub within : (e p : ℕ) → is_within (access t e p) (own_right_of t p) ≡ true
  pub manager : (p : ℕ) → page_at s p ≡ None → page_at t p ≡ None
  pub alone : (e f p : ℕ) → e ≢ f → is_some (access t e p) ≡ true → is_some (access t f p) ≡ true
      → is_joint_at (transaction_at t p) ≡ true

-- INTEGRITY

-- whether a call is an indirect message
abbrev pub is_send2 : calls.Call → Bool
is_send2 MsgSend2 = true
is_send2 call = false

-- whether e has mapped buffers, and this page is one of those of its RX
abbrev pub is_rx : State → Identifier → PageIndex → Bool
is_rx s e p = option_map_or (λ (b : Buffers). is_in_run b.rx b.pages p) (buffers_of s e) false

-- whether an indirect message of the runner isn't refused, and this page is one of those of its receiver's RX, where the
-- receiver is e
abbrev pub fills_rx_page : State → Identifier → PageIndex → Bool
fills_rx_page s e p =
    is_none (first_failure (msg_send2 s).guards) && ((header_in (tx_bytes s s.runner)).receiver == e && is_rx s e p)

-- and whether a move is such a message
abbrev pub fills : {Result : Type 0} → Move Result → Identifier → PageIndex → Bool
fills m e p = m.asks is_send2 && fills_rx_page m.from e p

-- The bytes of a page that its owner has alone stay while another endpoint acts, but for a message into the owner's RX.
abbrev pub Integrity : {Result : Type 0} → (State → Move Result) → State → Type 0
Integrity m s =
    (e p : ℕ) → owner_of s p ≡ e → handle_at s p ≡ None → (m s).from.runner ≢ e → fills (m s) e p ≡ false
    → page_bytes (m s).after p ≡ page_bytes s p
