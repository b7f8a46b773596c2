-- SPDX-License-Identifier: MIT OR Apache-2.0
-- What an endpoint sees of a run is in the outcomes of the run.
use Rattle.std.proofs.Common.{◌≡◌, ◌≢◌, ◌∙◌, ℕ, Bool, true, false, cond, List, [], ◌∷◌, ◌++◌, Option, Some, None, refl, sym, ap, append-nil, ◌==◌, eq-eqb, ne_eqb, true≢false, append_assoc}
use Rattle.byteorder.specs.Endian.{little_bytes}
use Rattle.ffa_model.specs.declared.operation.Op.{Op}
use Rattle.ffa_model.specs.declared.operation.Op.TheVariants.{Call, Load, Store, Fetch}
use Rattle.ffa_model.specs.declared.operation.ErrorCode.{ErrorCode}
use Rattle.ffa_model.specs.declared.operation.FaultKind.{FaultKind}
use Rattle.ffa_model.specs.declared.operation.Outcome.{Outcome}
use Rattle.ffa_model.specs.declared.operation.Outcome.TheVariants.{Data, Done, Fault}
use Rattle.ffa_model.specs.State.{State}
use Rattle.ffa_model.specs.Calls.{Service, Stepped, answered, first_failure}
use Rattle.ffa_model.specs.Memory.{accessed, fetch_fault, number_at, read_fault, size_of, store_fault, stored}
use Rattle.ffa_model.specs.Registers.{decode}
use Rattle.ffa_model.specs.Step.{outcomes, serve, service, step}
use Rattle.ffa_laws.specs.Events.{Event, Wrote, events, message, messages, public_change, seen, told_by, where_passed, where_true}
use Rattle.ffa_laws.specs.Isolation.{Shown, runner_after, shown_to}
use Rattle.ffa_laws.proofs.Publics.{either-public}
use Rattle.ffa_laws.proofs.Services.{shows-service}
use Rattle.ffa_laws.proofs.Showing.{Shows}

-- an outcome names who runs then
abbrev Tells : ℕ → Stepped → Type 0
Tells r st = runner_after r st.outcome ≡ st.state.runner

tells-answered : (r : ℕ) (s : State) (c : Service) (failure : Option ErrorCode) → Tells r (answered failure s c.state c.reply)
tells-answered r s c None = refl
tells-answered r s c (Some code) = refl

messages-append : (e : ℕ) (xs ys : List Event) → messages e (xs ++ ys) ≡ messages e xs ++ messages e ys
messages-append e [] ys = refl
messages-append e (x ∷ xs) ys = ap (λ zs. message e x ++ zs) (messages-append e xs ys) ∙ sym (append_assoc (message e x) (messages e xs) (messages e ys))

pub messages-public : (e : ℕ) (s next : State) → messages e (public_change s next) ≡ []
messages-public e s next = either-public (λ es. messages e es ≡ []) s next refl refl

-- who runs on isn't e
stays : (e r : ℕ) (outcome : Outcome) → r ≢ e → runner_after r outcome ≡ r → [] ≡ cond (runner_after r outcome == e) (outcome ∷ []) []
stays e r outcome differ same = ap (λ b. cond b (outcome ∷ []) []) (sym (ap (λ q. q == e) same ∙ ne_eqb r e differ))

module _ (e : ℕ) (s : State) (differ : s.runner ≢ e) where
  shows-answered : (c : Service) (told : List Event) (f : Option ErrorCode) → Shows e s differ c told
      → messages e (where_passed f told) ≡ cond (runner_after s.runner (answered f s c.state c.reply).outcome == e) ((answered f s c.state c.reply).outcome ∷ []) []
  shows-answered c told None shows = shows
  shows-answered c told (Some code) shows = stays e s.runner (answered (Some code) s c.state c.reply).outcome differ refl

  accesses : (new : State) (outcome : Outcome) (failure : Option FaultKind) → runner_after s.runner outcome ≡ s.runner
      → [] ≡ cond (runner_after s.runner (accessed failure s new outcome).outcome == e) ((accessed failure s new outcome).outcome ∷ []) []
  accesses new outcome None same = stays e s.runner outcome differ same
  accesses new outcome (Some fault) same = stays e s.runner (Fault fault) differ refl

  no_wrote : (f : Option FaultKind) (b : Bool) (address : ℕ) (bytes : List ℕ) → messages e (where_passed f (where_true b (Wrote address bytes ∷ []))) ≡ []
  no_wrote None true address bytes = refl
  no_wrote None false address bytes = refl
  no_wrote (Some fault) b address bytes = refl

  shows-step : (op : Op) → messages e (events e s op) ≡ cond (runner_after s.runner (step s op).outcome == e) ((step s op).outcome ∷ []) []
  shows-step (Call x) =
      let told = where_passed (first_failure (service s (decode x)).guards) (told_by e s (decode x)) in
      messages-append e told (public_change s (serve s (decode x)).state)
      ∙ ap (λ ys. messages e told ++ ys) (messages-public e s (serve s (decode x)).state)
      ∙ append-nil (messages e told)
      ∙ shows-answered (service s (decode x)) (told_by e s (decode x)) (first_failure (service s (decode x)).guards) (shows-service e s differ (decode x))
  shows-step (Load address size) = accesses s (Data (number_at s address (size_of size))) (read_fault s address (size_of size)) refl
  shows-step (Store address size value) =
      no_wrote (store_fault s address (size_of size)) _ address (little_bytes (size_of size) value)
      ∙ accesses (stored s address (little_bytes (size_of size) value)) Done (store_fault s address (size_of size)) refl
  shows-step (Fetch address) = accesses s (Data (number_at s address 4)) (fetch_fault s address) refl

-- ---- who runs after an operation
tells-accessed : (s new : State) (outcome : Outcome) (failure : Option FaultKind) → runner_after s.runner outcome ≡ new.runner → Tells s.runner (accessed failure s new outcome)
tells-accessed s new outcome None same = same
tells-accessed s new outcome (Some fault) same = refl

tells-step : (s : State) (op : Op) → Tells s.runner (step s op)
tells-step s (Call x) = tells-answered s.runner s (service s (decode x)) (first_failure (service s (decode x)).guards)
tells-step s (Load address size) = tells-accessed s s (Data (number_at s address (size_of size))) (read_fault s address (size_of size)) refl
tells-step s (Store address size value) = tells-accessed s (stored s address (little_bytes (size_of size) value)) Done (store_fault s address (size_of size)) refl
tells-step s (Fetch address) = tells-accessed s s (Data (number_at s address 4)) (fetch_fault s address) refl

pub shown : (s : State) (ops : List Op) → Shown s ops
shown s [] e = refl
shown s (op ∷ ops) e =
    let later : shown_to e (runner_after s.runner (step s op).outcome) (outcomes (step s op).state ops) ≡ seen e (step s op).state ops
    = ap (λ r. shown_to e r (outcomes (step s op).state ops)) (tells-step s op) ∙ shown (step s op).state ops e in
    elim (s.runner == e) as (λ b. (s.runner == e) ≡ b
    → cond b ((step s op).outcome ∷ []) (cond (runner_after s.runner (step s op).outcome == e) ((step s op).outcome ∷ []) []) ++ shown_to e (runner_after s.runner (step s op).outcome) (outcomes (step s op).state ops)
    ≡ cond b ((step s op).outcome ∷ []) (messages e (events e s op)) ++ seen e (step s op).state ops) [
      | true ↦ λ mine. ap (λ xs. (step s op).outcome ∷ xs) later
      | false ↦ λ other. (λ i. sym (shows-step e s (λ same. true≢false (sym (eq-eqb s.runner e same) ∙ other)) op) i ++ later i)
    ] refl
