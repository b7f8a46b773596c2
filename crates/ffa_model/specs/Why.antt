-- SPDX-License-Identifier: MIT OR Apache-2.0
-- Why an operation is refused, and by what an endpoint has its access to a page.
use Rattle.std.specs.Prelude.{ℕ, List, Option, Some, None, is_some, slice_index, if◌then◌else◌}
use Rattle.std.specs.Option.{option_map}
use Rattle.ffa_model.specs.declared.call.Reply.TheVariants.{Error}
use Rattle.ffa_model.specs.declared.operation.FaultKind.{FaultKind}
use Rattle.ffa_model.specs.declared.operation.Op.{Op}
use Rattle.ffa_model.specs.declared.operation.Op.TheVariants.{Call, Load, Store, Fetch}
use Rattle.ffa_model.specs.declared.operation.Outcome.{Outcome}
use Rattle.ffa_model.specs.declared.operation.Outcome.TheVariants as outcomes
use Rattle.ffa_model.specs.declared.refusal.Refusal.{Refusal}
use Rattle.ffa_model.specs.declared.why.Grant.{Grant}
use Rattle.ffa_model.specs.declared.why.Grant.TheVariants.{Own, Shared, Held}
use Rattle.ffa_model.specs.declared.why.Why.{Why}
use Rattle.ffa_model.specs.declared.why.Why.TheVariants.{Refused, Fault}
use Rattle.ffa_model.specs.Numbers.{Identifier, PageIndex}
use Rattle.ffa_model.specs.About.{about}
use Rattle.ffa_model.specs.Access.{access, handle_at, is_held_by, transaction_at}
use Rattle.ffa_model.specs.Calls.{first_refusal, replied}
use Rattle.ffa_model.specs.Memory.{fetch_fault, read_fault, size_of, store_fault}
use Rattle.ffa_model.specs.Obstacles.{obstacle_of}
use Rattle.ffa_model.specs.RefusalCodes.{code_of}
use Rattle.ffa_model.specs.Registers.{decode, low}
use Rattle.ffa_model.specs.State.{State, Transaction}
use Rattle.ffa_model.specs.Step.{service}

abbrev pub why_fault : State → ℕ → Option FaultKind → Option Why
why_fault s address fault = option_map (λ (kind : FaultKind). Fault kind (obstacle_of s address kind)) fault

-- a check that fails, with what it is about.
-- A check's name carries no data, because data would change every guard. What the check is about is a function of the
-- call and the name. If no function has a row for a name, nothing is reported, and no proof fails.
abbrev pub refused : State → List ℕ → Refusal → Why
refused s x refusal = Refused refusal (about s (low (slice_index x 0)) (decode x) refusal)

-- why an operation of the runner is refused: of a call the first check that fails, of an access its fault
abbrev pub why : State → Op → Option Why
why s (Call x) = option_map (refused s x) (first_refusal (service s (decode x)).guards)
why s (Load address size) = why_fault s address (read_fault s address (size_of size))
why s (Store address size value) = why_fault s address (store_fault s address (size_of size))
why s (Fetch address) = why_fault s address (fetch_fault s address)

-- what comes of it: FFA_ERROR with the check's code, or the fault
abbrev pub outcome_of : State → Why → Outcome
outcome_of s (Refused refusal about) = (replied s (Error (code_of refusal))).outcome
outcome_of s (Fault kind obstacle) = outcomes.Fault kind

-- by what e has its access to a page, if it has one: it holds the open transaction in which the page stands, or shares its
-- own page by it, or has its own page, which stands in none
abbrev pub grant_by : Identifier → Option ℕ → Option Transaction → Grant
grant_by e None t = Own
grant_by e (Some handle) t = if is_held_by e t then Held handle else Shared handle

abbrev pub granted : State → Identifier → PageIndex → Option Grant
granted s e p = if is_some (access s e p) then Some (grant_by e (handle_at s p) (transaction_at s p)) else None
