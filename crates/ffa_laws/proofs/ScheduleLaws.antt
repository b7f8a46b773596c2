-- SPDX-License-Identifier: MIT OR Apache-2.0
-- Run states: run, wait, yield and direct messages, in the runner's view, and to others.
use Rattle.std.proofs.Common.{◌&&◌, ◌≡◌, ◌∙◌, ℕ, Bool, suc, zero, true, false, List, [], ◌∷◌, length, get_or, set, Option, Some, None, refl, sym, ap, length-set, ◌==◌, ◌++◌}
use Rattle.std.proofs.lemmas.Bool.{and_parts, eqb-true, false≢true}
use Rattle.ffa_model.specs.declared.call.DirectMessage.{DirectMessage}
use Rattle.ffa_model.specs.declared.schedule.Status.{Status}
use Rattle.ffa_model.specs.declared.schedule.Status.TheVariants.{Waiting, Yielded}
use Rattle.ffa_model.specs.declared.schedule.Work.{Work}
use Rattle.ffa_model.specs.declared.schedule.Work.TheVariants.{Run, Request}
use Rattle.ffa_model.specs.Identifiers.{place}
use Rattle.ffa_model.specs.State.{State, buffers_of, is_known_among, version_of}
use Rattle.ffa_model.specs.Buffers.{buffers_with_rx}
use Rattle.ffa_model.specs.Calls.{Service, first_failure}
use Rattle.ffa_model.specs.RunStates.{Schedule, direct_request, direct_response, finished, given_cycles, is_endpoint, keeps_rx, msg_wait, request_guards, requested, requester, response_guards, run_guards, run_partition, schedule_of, status_in, switched, waited, with_schedule, work_in, yield_now}
use Rattle.ffa_laws.specs.Steady.{IsSteady}
use Rattle.ffa_laws.specs.View.{view}
use Rattle.ffa_laws.specs.Events.{apply_all, public_change, switches}
use Rattle.ffa_model.proofs.Guards.{guard-passes}
use Rattle.ffa_model.proofs.Places.{partition-known}
use Rattle.ffa_laws.proofs.Form.{IsOwn, waited-kept}
use Rattle.ffa_laws.proofs.Changes.{other-changed, own-same, unwritten}
use Rattle.ffa_laws.proofs.Written.{rx-own, with_rx_full}
use Rattle.ffa_laws.proofs.Steadies.{steady-changed, steady-rx}
use Rattle.ffa_laws.proofs.Told.{switches-applied}
use Rattle.ffa_laws.proofs.BufferLaws.{view-with_rx}
use Rattle.ffa_laws.proofs.Versions.{version-seen}

-- ---- in the runner's view
module _ (s : State) where
  pub own-request : (message : DirectMessage) → IsOwn s (direct_request (view s.runner s) message) (direct_request s message)
  own-request message = (refl, λ none. (refl, refl))

  pub own-response : (message : DirectMessage) → IsOwn s (direct_response (view s.runner s) message) (direct_response s message)
  own-response message = (refl, λ none. (refl, refl))

  pub own-run : (target context : ℕ) → IsOwn s (run_partition (view s.runner s) target context) (run_partition s target context)
  own-run target context = (refl, λ none. (refl, refl))

  -- the runner sees its form
  pub own-wait : IsSteady s → (flags : ℕ) → IsOwn s (msg_wait (view s.runner s) flags) (msg_wait s flags)
  own-wait steady flags = (
    refl,
    λ none. (
      ap (λ version. waited (view s.runner s) (keeps_rx version flags)) (version-seen s.runner s steady.runner) ∙ of (keeps_rx (version_of s s.runner) flags),
      refl,
    ),
  )
    where
      of : (b : Bool) → waited (view s.runner s) b ≡ view s.runner (waited s b)
      of true = refl
      of false = view-with_rx s.runner (with_schedule s (finished (schedule_of s) 0)) s.runner false

  pub own-yield : IsOwn s (yield_now (view s.runner s)) (yield_now s)
  own-yield = (refl, λ none. (refl, refl))

-- ---- to others
module _ (e : ℕ) (s : State) where
  pub other-scheduled : (c : Schedule) (call : Service) → view e (with_schedule s c) ≡ apply_all e (view e s) (switches e call ++ public_change s (with_schedule s c))
  other-scheduled c call = other-changed e s s.pages s.buffers c (switches e call) (unwritten s.pages) refl (own-same e s) (switches-applied e (view e s) call)

  pub other-wait : (flags : ℕ) → view e (msg_wait s flags).state ≡ apply_all e (view e s) (switches e (msg_wait s flags) ++ public_change s (msg_wait s flags).state)
  other-wait flags =
      let told = switches e (msg_wait s flags) in
      waited-kept (λ t. view e t ≡ apply_all e (view e s) (told ++ public_change s t)) s flags (other-scheduled (finished (schedule_of s) 0) (msg_wait s flags))
      (other-changed e s s.pages (buffers_with_rx s.buffers s.runner false) (finished (schedule_of s) 0) told (unwritten s.pages)
      (length-set s.buffers (place s.runner) (with_rx_full false (buffers_of s s.runner))) (λ i mine. rx-own (length s.pages) s.buffers s.runner false i)
      (switches-applied e (view e s) (msg_wait s flags)))

-- ---- steadiness: who runs, and whom works name
pub requesters-set : (K : ℕ → Type 0) (ws : List (Option Work)) (j : ℕ) (w : Option Work) → ((by : ℕ) → requester w ≡ Some by → K by) → ((i by : ℕ) → requester (get_or ws i None) ≡ Some by → K by)
    → (i by : ℕ) → requester (get_or (set ws j w) i None) ≡ Some by → K by
requesters-set K [] j w new old i by is = old i by is
requesters-set K (x ∷ ws) zero w new old zero by is = new by is
requesters-set K (x ∷ ws) zero w new old (suc i) by is = old (suc i) by is
requesters-set K (x ∷ ws) (suc j) w new old zero by is = old 0 by is
requesters-set K (x ∷ ws) (suc j) w new old (suc i) by is = requesters-set K ws j w new (λ k. old (suc k)) i by is

abbrev Known : State → ℕ → Type 0
Known s e = is_known_among (length s.parties) e ≡ true

none_some : {x : ℕ} → None ≡ Some x → ⊥
none_some e = cc

-- the runner and the requesters of a schedule are endpoints
record AreKnown (s : State) (c : Schedule) : Type 0 where
  runner : Known s c.runner
  requesters : (i by : ℕ) → requester (get_or c.works i None) ≡ Some by → Known s by

module _ (s : State) (steady : IsSteady s) where
  scheduled-steady : (c : Schedule) → AreKnown s c → IsSteady (with_schedule s c)
  scheduled-steady c known = steady-changed s steady s.pages s.buffers c (unwritten s.pages) refl known.runner known.requesters steady.buffers

  finished-known : (e : ℕ) → Known s e → AreKnown s (finished (schedule_of s) e)
  finished-known e known =
      record { runner = known; requesters = requesters-set (Known s) s.works (place s.runner) None (λ by is. absurd (none_some is)) steady.requesters }

  given-known : (e : ℕ) (status : Status) → Known s e → AreKnown s (given_cycles (schedule_of s) e status)
  given-known e Waiting known = record { runner = known; requesters = requesters-set (Known s) s.works (place e) (Some Run) (λ by is. absurd (none_some is)) steady.requesters }
  given-known e Yielded known = record { runner = known; requesters = steady.requesters }
  given-known e _ known = record { runner = steady.runner; requesters = steady.requesters }

  first-known : Known s 0
  first-known = refl

  pub steady-request : (message : DirectMessage) → first_failure (request_guards s.parties (schedule_of s) message) ≡ None → IsSteady (direct_request s message).state
  steady-request message none =
      scheduled-steady (requested (schedule_of s) message.receiver.0) (record {
        runner = guard-passes (request_guards s.parties (schedule_of s) message) 2 (sym none);
        requesters = requesters-set (Known s) s.works (place message.receiver.0) (Some (Request (record { 0 = s.runner }))) (λ by is. (let same : s.runner ≡ by = cc in ap (is_known_among (length s.parties)) (sym same) ∙ steady.runner)) steady.requesters;
      })

  answers : (message : DirectMessage) (w : Option ℕ) → (message.sender.0 == s.runner && is_endpoint message.receiver.0 w) ≡ true → (by : ℕ) × (w ≡ Some by) × (message.receiver.0 ≡ by)
  answers message None is = absurd (false≢true (and_parts (message.sender.0 == s.runner) _ is).1)
  answers message (Some by) is = (by, refl, sym (eqb-true by message.receiver.0 (and_parts (message.sender.0 == s.runner) _ is).1))

  pub steady-run : (target context : ℕ) → first_failure (run_guards (length s.parties) (schedule_of s) target context) ≡ None → IsSteady (run_partition s target context).state
  steady-run target context none =
      scheduled-steady (given_cycles (schedule_of s) target (status_in (schedule_of s) target))
      (given-known target (status_in (schedule_of s) target) (partition-known (length s.parties) target (guard-passes (run_guards (length s.parties) (schedule_of s) target context) 1 (sym none))))

  pub steady-yield : IsSteady (yield_now s).state
  steady-yield = scheduled-steady (switched (schedule_of s) Yielded 0) (record { runner = first-known; requesters = steady.requesters })

  pub steady-wait : (flags : ℕ) → IsSteady (msg_wait s flags).state
  steady-wait flags =
      let known = finished-known 0 first-known in
      waited-kept IsSteady s flags (scheduled-steady (finished (schedule_of s) 0) known)
      (steady-changed s steady s.pages (buffers_with_rx s.buffers s.runner false) (finished (schedule_of s) 0) (unwritten s.pages) (length-set s.buffers (place s.runner) (with_rx_full false (buffers_of s s.runner)))
      known.runner known.requesters (steady-rx s steady s.runner false))

  -- a response goes to the runner's requester
  pub answerer : (message : DirectMessage) → first_failure (response_guards (schedule_of s) message) ≡ None → (by : ℕ) × (requester (work_in (schedule_of s) s.runner) ≡ Some by) × (message.receiver.0 ≡ by)
  answerer message none =
      answers message (requester (work_in (schedule_of s) s.runner)) (guard-passes (response_guards (schedule_of s) message) 1 (sym none))

  pub steady-response : (message : DirectMessage) → first_failure (response_guards (schedule_of s) message) ≡ None → IsSteady (direct_response s message).state
  steady-response message none =
      (let (by, is, to) = answerer message none in
      scheduled-steady (finished (schedule_of s) message.receiver.0) (finished-known message.receiver.0 (ap (is_known_among (length s.parties)) to ∙ steady.requesters (place s.runner) by is)))
