-- SPDX-License-Identifier: MIT OR Apache-2.0
-- Why an operation is refused: for a reason just where it is refused, and what comes of it is the reason's.
use Rattle.std.proofs.Common.{◌≡◌, ◌∙◌, ℕ, true, false, List, Option, Some, None, is_some, refl, sym, ap, IfSome, true≢false}
use Rattle.std.specs.Option.{option_map}
use Rattle.ffa_model.specs.declared.operation.ErrorCode.{ErrorCode}
use Rattle.ffa_model.specs.declared.operation.FaultKind.{FaultKind}
use Rattle.ffa_model.specs.declared.operation.Op.{Op}
use Rattle.ffa_model.specs.declared.operation.Op.TheVariants.{Call, Load, Store, Fetch}
use Rattle.ffa_model.specs.declared.operation.Outcome.{Outcome}
use Rattle.ffa_model.specs.declared.operation.Outcome.TheVariants.{Data, Done}
use Rattle.ffa_model.specs.declared.refusal.Refusal.{Refusal}
use Rattle.ffa_model.specs.declared.why.Why.{Why}
use Rattle.ffa_model.specs.Calls.{Service, answered, first_failure, first_refusal, served}
use Rattle.ffa_model.specs.Memory.{accessed, fetch_fault, number_at, read_fault, size_of, store_fault, stored}
use Rattle.ffa_model.specs.RefusalCodes.{code_of}
use Rattle.ffa_model.specs.Refusals.{is_error, is_refusal}
use Rattle.ffa_model.specs.Registers.{decode}
use Rattle.ffa_model.specs.State.{State}
use Rattle.ffa_model.specs.Step.{service, step}
use Rattle.ffa_model.specs.Why.{outcome_of, refused, why, why_fault}
use Rattle.ffa_model.proofs.Guards.{failure-code}
use Rattle.ffa_model.proofs.Served.{done-no-error}
use Rattle.byteorder.specs.Endian.{little_bytes}

-- of a call, by its guards
module _ (s : State) (x : List ℕ) (c : Service) where
  abbrev reason : Option Refusal → Option Why
  reason o = option_map (refused s x) o

  by-name : (served s c).outcome ≡ (answered (option_map code_of (first_refusal c.guards)) s c.state c.reply).outcome
  by-name = ap (λ (o : Option ErrorCode). (answered o s c.state c.reply).outcome) (failure-code c.guards)

  refused-call : (first_failure c.guards ≡ None → is_error c.reply ≡ false) → is_some (reason (first_refusal c.guards)) ≡ is_refusal (served s c).outcome
  refused-call plain = of (first_refusal c.guards) refl ∙ sym (ap is_refusal by-name)
    where
      of : (o : Option Refusal) → first_refusal c.guards ≡ o → is_some (reason o) ≡ is_refusal (answered (option_map code_of o) s c.state c.reply).outcome
      of None is = sym (plain (failure-code c.guards ∙ ap (λ (q : Option Refusal). option_map code_of q) is))
      of (Some refusal) is = refl

  outcome-call : IfSome (reason (first_refusal c.guards)) (λ w. (served s c).outcome ≡ outcome_of s w)
  outcome-call = of (first_refusal c.guards) refl
    where
      of : (o : Option Refusal) → first_refusal c.guards ≡ o → IfSome (reason o) (λ w. (served s c).outcome ≡ outcome_of s w)
      of None is = tt
      of (Some refusal) is = by-name ∙ ap (λ (q : Option Refusal). (answered (option_map code_of q) s c.state c.reply).outcome) is

  unchanged-call : (first_failure c.guards ≡ None → is_error c.reply ≡ false) → is_refusal (served s c).outcome ≡ true → (served s c).state ≡ s
  unchanged-call plain = of (first_failure c.guards) refl
    where
      of : (o : Option ErrorCode) → first_failure c.guards ≡ o → is_refusal (answered o s c.state c.reply).outcome ≡ true
          → (answered o s c.state c.reply).state ≡ s
      of None is refused = absurd (true≢false (sym refused ∙ plain is))
      of (Some code) is refused = refl

-- of an access, by its fault
module _ (s new : State) (outcome : Outcome) (address : ℕ) where
  refused-access : is_refusal outcome ≡ false → (fault : Option FaultKind) → is_some (why_fault s address fault) ≡ is_refusal (accessed fault s new outcome).outcome
  refused-access plain None = sym plain
  refused-access plain (Some fault) = refl

  outcome-access : (fault : Option FaultKind) → IfSome (why_fault s address fault) (λ w. (accessed fault s new outcome).outcome ≡ outcome_of s w)
  outcome-access None = tt
  outcome-access (Some fault) = refl

  unchanged-access : is_refusal outcome ≡ false → (fault : Option FaultKind) → is_refusal (accessed fault s new outcome).outcome ≡ true
      → (accessed fault s new outcome).state ≡ s
  unchanged-access plain None refused = absurd (true≢false (sym refused ∙ plain))
  unchanged-access plain (Some fault) refused = refl

-- there is a reason just where the operation is refused
pub why-refused : (s : State) (op : Op) → is_some (why s op) ≡ is_refusal (step s op).outcome
why-refused s (Call x) = refused-call s x (service s (decode x)) (done-no-error s x)
why-refused s (Load address size) = refused-access s s (Data (number_at s address (size_of size))) address refl (read_fault s address (size_of size))
why-refused s (Store address size value) =
    refused-access s (stored s address (little_bytes (size_of size) value)) Done address refl (store_fault s address (size_of size))
why-refused s (Fetch address) = refused-access s s (Data (number_at s address 4)) address refl (fetch_fault s address)

-- and it says what comes of the operation
pub why-outcome : (s : State) (op : Op) → IfSome (why s op) (λ w. (step s op).outcome ≡ outcome_of s w)
why-outcome s (Call x) = outcome-call s x (service s (decode x))
why-outcome s (Load address size) = outcome-access s s (Data (number_at s address (size_of size))) address (read_fault s address (size_of size))
why-outcome s (Store address size value) =
    outcome-access s (stored s address (little_bytes (size_of size) value)) Done address (store_fault s address (size_of size))
why-outcome s (Fetch address) = outcome-access s s (Data (number_at s address 4)) address (fetch_fault s address)

-- an operation that is refused changes nothing
pub refused-unchanged : (s : State) (op : Op) → is_refusal (step s op).outcome ≡ true → (step s op).state ≡ s
refused-unchanged s (Call x) = unchanged-call s x (service s (decode x)) (done-no-error s x)
refused-unchanged s (Load address size) =
    unchanged-access s s (Data (number_at s address (size_of size))) address refl (read_fault s address (size_of size))
refused-unchanged s (Store address size value) =
    unchanged-access s (stored s address (little_bytes (size_of size) value)) Done address refl (store_fault s address (size_of size))
refused-unchanged s (Fetch address) = unchanged-access s s (Data (number_at s address 4)) address refl (fetch_fault s address)

pub why-not : (s : State) (op : Op) → is_refusal (step s op).outcome ≡ false → why s op ≡ None
why-not s op done = none-of (why s op) (why-refused s op ∙ done)
  where
    none-of : (o : Option Why) → is_some o ≡ false → o ≡ None
    none-of None none = refl
    none-of (Some reason) none = absurd (true≢false none)
