-- SPDX-License-Identifier: MIT OR Apache-2.0
-- Run states stay sound, and the same partitions run elsewhere.
use Rattle.std.proofs.Common.{◌≡◌, ◌≢◌, ◌∙◌, ℕ, zero, suc, ◌<◌, ◌≤◌, true, length, get_or, List, Option, Some, None, refl, sym, ap, inl, inr, arith, ◌==◌, ◌||◌}
use Rattle.std.proofs.lemmas.Bool.{cases_lt, eq-eqb, eqb-true, false≢true, not_from_true, true≢false}
use Rattle.std.proofs.lemmas.Bool.Decides.{nat_tests}
use Rattle.std.proofs.lemmas.List.{get_or_past}
use Rattle.std.proofs.lemmas.Option.{none-some}
use Rattle.ffa_model.specs.declared.schedule.Status.{Status}
use Rattle.ffa_model.specs.declared.schedule.Status.TheVariants.{Running, Waiting, Yielded, Blocked, RunsElsewhere}
use Rattle.ffa_model.specs.declared.schedule.Work.{Work}
use Rattle.ffa_model.specs.declared.schedule.Work.TheVariants.{Run, Request}
use Rattle.ffa_model.specs.declared.call.DirectMessage.{DirectMessage}
use Rattle.ffa_model.specs.Identifiers.{identifier}
use Rattle.ffa_model.specs.State.{Party, is_known_among, is_partition_among}
use Rattle.ffa_model.specs.RunStates.{Schedule, finished, given_cycles, is_endpoint, is_run, is_stopped, request_guards, requested, requester, run_guards, status_in, switched, wait_guards, with_work, work_in, yield_guards}
use Rattle.ffa_model.specs.Calls.{first_failure}
use Rattle.ffa_model.specs.Processors.{SameElsewhere}
use Rattle.ffa_model.specs.Sound.{IsFor, IsSound, MayGoOn, origin}
use Rattle.ffa_model.proofs.Guards.{guard-passes}
use Rattle.ffa_model.proofs.Places.{known-cases, partition-known, place-identifier}
use Rattle.ffa_model.proofs.Processors.{elsewhere-begun, elsewhere-done, elsewhere-going}
use Rattle.ffa_model.proofs.Sounds.{sound-begun, sound-done, sound-going, waits}

pub same-elsewhere : (c : Schedule) → SameElsewhere c c
same-elsewhere c e = ((λ its. its), (λ its. its))

-- run states that are sound, and in which the same partitions run elsewhere
pub record IsNext (c d : Schedule) : Type 0 where
  pub sound : IsSound d
  pub elsewhere : SameElsewhere c d

module _ (c : Schedule) (is : IsSound c) (some : 1 ≤ length c.works) where
  same-next : IsNext c c
  same-next = record { sound = is; elsewhere = same-elsewhere c }

  running≢elsewhere : Running ≡ RunsElsewhere → ⊥
  running≢elsewhere h = cc

  blocked≢elsewhere : Blocked ≡ RunsElsewhere → ⊥
  blocked≢elsewhere h = cc

  yielded≢elsewhere : Yielded ≡ RunsElsewhere → ⊥
  yielded≢elsewhere h = cc

  normal-here : status_in c 0 ≢ RunsElsewhere
  normal-here away = elim is.normal [ inl runs ↦ running≢elsewhere (sym runs ∙ away) | inr blocked ↦ blocked≢elsewhere (sym blocked ∙ away) ]

  -- a partition that waits begins to work for the runner
  begun : (e : ℕ) (w : Work) → is_partition_among (length c.works) e ≡ true → status_in c e ≡ Waiting → origin (Some w) ≡ Some c.runner → IsNext c (with_work (switched c Blocked e) e (Some w))
  begun e w partition waiting works_for =
      record { sound = sound-begun c is some e w partition waiting works_for; elsewhere = elsewhere-begun c is some e w partition waiting }

  done : (e : ℕ) → origin (work_in c c.runner) ≡ Some e → IsNext c (finished c e)
  done e works_for = record { sound = sound-done c is some e works_for; elsewhere = elsewhere-done c is some e works_for }

  -- ---- the calls
  module _ (parties : List Party) (each : length parties ≡ length c.works) where
    pub next-request : (message : DirectMessage) → first_failure (request_guards parties c message) ≡ None → IsNext c (requested c message.receiver.0)
    next-request message none =
        begun message.receiver.0 (Request (record { 0 = c.runner })) partition (waits (status_in c message.receiver.0) (guard-passes (request_guards parties c message) 7 (sym none))) refl
      where
        known : is_known_among (length c.works) message.receiver.0 ≡ true
        known = ap (λ n. is_known_among n message.receiver.0) (sym each) ∙ guard-passes (request_guards parties c message) 2 (sym none)

        partition : is_partition_among (length c.works) message.receiver.0 ≡ true
        partition = elim (known-cases (length c.works) message.receiver.0 known) [
          | inl first ↦ absurd (true≢false (sym (guard-passes (request_guards parties c message) 4 (sym none)) ∙ not_from_true (message.receiver.0 == 0) (eq-eqb message.receiver.0 0 first)))
          | inr is ↦ is
        ]

  pub next-run : (target context : ℕ) → first_failure (run_guards (length c.works) c target context) ≡ None → IsNext c (given_cycles c target (status_in c target))
  next-run target context none = go (status_in c target) refl
    where
      partition : is_partition_among (length c.works) target ≡ true
      partition = guard-passes (run_guards (length c.works) c target context) 1 (sym none)

      normal : c.runner ≡ 0
      normal = eqb-true c.runner 0 (guard-passes (run_guards (length c.works) c target context) 0 (sym none))

      on : status_in c target ≡ Yielded → MayGoOn c target
      on at = inr (record { partition = partition; stopped = ap is_stopped at })

      go : (status : Status) → status_in c target ≡ status → IsNext c (given_cycles c target status)
      go Waiting at = begun target Run partition at (ap Some (sym normal))
      go Yielded at = record {
        sound = sound-going c is some Blocked target normal (on at);
        elsewhere = elsewhere-going c is some Blocked target normal (on at) blocked≢elsewhere (λ away. yielded≢elsewhere (sym at ∙ away));
      }
      go _ at = same-next

  work-origin : (w : Option Work) (by : ℕ) → requester w ≡ Some by → origin w ≡ Some by
  work-origin (Some Run) by h = absurd (none-some by h)
  work-origin _ by h = h

  run-origin : (w : Option Work) → is_run w ≡ true → origin w ≡ Some 0
  run-origin (Some Run) h = refl
  run-origin _ h = absurd (false≢true h)

  yield-origin : (w : Option Work) → (is_run w || is_endpoint 0 (requester w)) ≡ true → origin w ≡ Some 0
  yield-origin None h = absurd (false≢true h)
  yield-origin (Some Run) h = refl
  yield-origin (Some (Request x)) h = ap Some (eqb-true x.0 0 h)

  pub next-wait : first_failure (wait_guards c) ≡ None → IsNext c (finished c 0)
  next-wait none = done 0 (run-origin (work_in c c.runner) (guard-passes (wait_guards c) 0 (sym none)))

  pub next-yield : first_failure (yield_guards c) ≡ None → IsNext c (switched c Yielded 0)
  next-yield none =
      let from = yield-origin (work_in c c.runner) (guard-passes (yield_guards c) 0 (sym none)) in
      record {
        sound = sound-going c is some Yielded 0 from (inl refl);
        elsewhere = elsewhere-going c is some Yielded 0 from (inl refl) yielded≢elsewhere normal-here;
      }

  pub next-response : (by : ℕ) → requester (work_in c c.runner) ≡ Some by → IsNext c (finished c by)
  next-response by asked = done by (work-origin (work_in c c.runner) by asked)

  -- whoever waits for an answer is an endpoint
  pub requester-known : (p by : ℕ) → requester (get_or c.works p None) ≡ Some by → is_known_among (length c.works) by ≡ true
  requester-known p by asked = elim (cases_lt p (length c.works)) [
    | inl within ↦ at p within asked
    | inr past ↦ absurd (none-some by (ap requester (sym (get_or_past c.works p None past)) ∙ asked))
  ]
    where
      partition : (q : ℕ) → suc q < length c.works → is_partition_among (length c.works) (identifier (suc q)) ≡ true
      partition q lt = grind (arith, nat_tests)

      at : (p : ℕ) → p < length c.works → requester (get_or c.works p None) ≡ Some by → is_known_among (length c.works) by ≡ true
      at zero lt asked = absurd (none-some by (sym (ap requester is.no_work) ∙ asked))
      at (suc q) lt asked =
          let its : IsFor c by (identifier (suc q)) = record {
            partition = partition q lt;
            works = ap (λ (r : ℕ). origin (get_or c.works r None)) (place-identifier (suc q)) ∙ work-origin (get_or c.works (suc q) None) by asked;
          } in
          elim (is.chains.between by (identifier (suc q)) its) [
            | inl first ↦ ap (is_known_among (length c.works)) first
            | inr blocked ↦ partition-known (length c.works) by blocked.partition
          ]
