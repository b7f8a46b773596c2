-- SPDX-License-Identifier: MIT OR Apache-2.0
-- Each call that changes run states keeps them sound, and whoever runs elsewhere.
use Rattle.std.proofs.Common.{◌≡◌, ◌∙◌, ℕ, ◌≤◌, length, Some, None, refl, sym, ap, subst, arith, length-set}
use Rattle.ffa_model.specs.declared.schedule.Status.{Status}
use Rattle.ffa_model.specs.declared.schedule.Status.TheVariants.{Waiting, Yielded}
use Rattle.ffa_model.specs.declared.schedule.Work.TheVariants.{Run as WorkRun, Request}
use Rattle.ffa_model.specs.declared.call.DirectMessage.{DirectMessage}
use Rattle.ffa_model.specs.Identifiers.{place}
use Rattle.ffa_model.specs.State.{State}
use Rattle.ffa_model.specs.Calls.{first_failure}
use Rattle.ffa_model.specs.RunStates.{Schedule, direct_request, direct_response, finished, given_cycles, msg_wait, requested, run_guards, run_partition, schedule_of, status_in, switched, yield_now}
use Rattle.ffa_model.specs.Sound.{IsSound}
use Rattle.ffa_laws.specs.Steady.{IsSteady}
use Rattle.ffa_laws.proofs.ScheduleLaws.{answerer}
use Rattle.ffa_laws.proofs.SoundLaws.{IsNext, next-request, next-response, next-run, next-wait, next-yield}

-- run states that are sound, of as many endpoints, of which the same run elsewhere as before
pub record AreSound (n : ℕ) (before c : Schedule) : Type 0 where
  pub next : IsNext before c
  pub works : length c.works ≡ n

-- a steady state with sound run states
pub record IsScheduled (s : State) : Type 0 where
  pub steady : IsSteady s
  pub works : length s.works ≡ length s.parties
  pub schedule : IsSound (schedule_of s)

module _ (s : State) (is : IsScheduled s) where
  abbrev c : Schedule
  c = schedule_of s

  abbrev n : ℕ
  n = length s.parties

  some : 1 ≤ length s.works
  some = let least = is.steady.some in omega (arith, is.works)

  given-works : (e : ℕ) (status : Status) → length (given_cycles c e status).works ≡ length s.works
  given-works e Waiting = length-set s.works (place e) (Some WorkRun)
  given-works e _ = refl

  finished-works : (e : ℕ) → length (finished c e).works ≡ n
  finished-works e = length-set s.works (place s.runner) None ∙ is.works

  pub scheduled-wait : (flags : ℕ) → first_failure (msg_wait s flags).guards ≡ None → AreSound n c (finished c 0)
  scheduled-wait flags none = record { next = next-wait c is.schedule some none; works = finished-works 0 }

  pub scheduled-yield : first_failure (yield_now s).guards ≡ None → AreSound n c (switched c Yielded 0)
  scheduled-yield none = record { next = next-yield c is.schedule some none; works = is.works }

  pub scheduled-run : (target context : ℕ) → first_failure (run_partition s target context).guards ≡ None → AreSound n c (given_cycles c target (status_in c target))
  scheduled-run target context none =
      record { next = next-run c is.schedule some target context (ap (λ k. first_failure (run_guards k c target context)) is.works ∙ none); works = given-works target (status_in c target) ∙ is.works }

  pub scheduled-request : (message : DirectMessage) → first_failure (direct_request s message).guards ≡ None → AreSound n c (requested c message.receiver.0)
  scheduled-request message none =
      record { next = next-request c is.schedule some s.parties (sym is.works) message none; works = length-set s.works (place message.receiver.0) (Some (Request (record { 0 = s.runner }))) ∙ is.works }

  pub scheduled-response : (message : DirectMessage) → first_failure (direct_response s message).guards ≡ None → AreSound n c (finished c message.receiver.0)
  scheduled-response message none =
      (let (by, asked, to) = answerer s is.steady message none in
      subst (λ e. AreSound n c (finished c e)) (sym to) (record { next = next-response c is.schedule some by asked; works = finished-works by }))
