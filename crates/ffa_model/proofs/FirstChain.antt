-- SPDX-License-Identifier: MIT OR Apache-2.0
-- At first the normal world runs, and no endpoint has work.
use Rattle.std.proofs.Common.{◌≡◌, ◌≢◌, ◌∙◌, ℕ, zero, suc, ◌<◌, ◌≤◌, true, replicate, length, get_or, Option, None, refl, sym, ap, inl, arith}
use Rattle.std.proofs.lemmas.List.{length-replicate}
use Rattle.std.proofs.lemmas.Option.{none-some}
use Rattle.ffa_model.specs.declared.limits.TheConstants.{MOST_ENDPOINTS}
use Rattle.ffa_model.specs.declared.schedule.Status.TheVariants.{Running, Waiting, Yielded, Blocked, RunsElsewhere}
use Rattle.ffa_model.specs.declared.schedule.Work.{Work}
use Rattle.ffa_model.specs.First.{first_status}
use Rattle.ffa_model.specs.Identifiers.{place}
use Rattle.ffa_model.specs.State.{is_known_among, is_partition_among}
use Rattle.ffa_model.specs.RunStates.{Schedule, first_schedule, status_in}
use Rattle.ffa_model.specs.Sound.{IsEndpoint, IsFor, IsPartition, IsSound, origin}
use Rattle.ffa_model.specs.Processors.{IsElsewhere}
use Rattle.ffa_model.proofs.Listed.{get_or-listed, length-listed}
use Rattle.ffa_model.proofs.Places.{known-place, partition-place, same-known}

none-at : (n p : ℕ) → get_or {A = Option Work} (replicate n None) p None ≡ None
none-at zero p = refl
none-at (suc n) zero = refl
none-at (suc n) (suc p) = none-at n p

-- whoever is behind the first waits
behind-waits : (p : ℕ) → p ≢ 0 → first_status p ≡ Waiting
behind-waits zero other = absurd (other refl)
behind-waits (suc p) other = refl

module _ (n : ℕ) (some : 1 ≤ n) where
  abbrev c : Schedule
  c = first_schedule n

  size : length c.works ≡ n
  size = length-replicate {A = Option Work} n None

  status-at : (e : ℕ) → place e < n → status_in c e ≡ first_status (place e)
  status-at e lt = get_or-listed n first_status (place e) Waiting lt

  known : (e : ℕ) → IsEndpoint c e → is_known_among n e ≡ true
  known e its = ap (λ k. is_known_among k e) (sym size) ∙ its

  partition : (e : ℕ) → IsPartition c e → is_partition_among n e ≡ true
  partition e its = ap (λ k. is_partition_among k e) (sym size) ∙ its

  -- partitions wait
  pub first-waits : (e : ℕ) → IsPartition c e → status_in c e ≡ Waiting
  first-waits e its =
      let (high, within) = partition-place n e (partition e its) in
      status-at e within ∙ behind-waits (place e) (λ h. absurd (omega (arith, high, h)))

  alone : (e : ℕ) → IsEndpoint c e → status_in c e ≡ Running → e ≡ 0
  alone e its runs =
      let lt = known-place n e some (known e its) in
      same-known n e 0 (known e its) refl (at (place e) (sym (status-at e lt) ∙ runs))
    where
      waiting≢running : Waiting ≡ Running → ⊥
      waiting≢running h = cc

      at : (p : ℕ) → first_status p ≡ Running → p ≡ place 0
      at zero is = refl
      at (suc p) is = absurd (waiting≢running is)

  nobody : (e f : ℕ) → IsFor c e f → ⊥
  nobody e f its = none-some e (sym (ap origin (none-at n (place f))) ∙ its.works)

  waiting≢blocked : Waiting ≡ Blocked → ⊥
  waiting≢blocked h = cc

  pub first-sound : IsSound c
  first-sound = record {
    each = length-listed n first_status ∙ sym size;
    runner = refl;
    runs = status-at 0 (omega arith);
    alone = alone;
    normal = inl (status-at 0 (omega arith));
    no_work = none-at n 0;
    idle = λ e its. ((λ none. first-waits e its), (λ waits. none-at n (place e)));
    yielded = λ e its yields. absurd (waiting≢yielded (sym (first-waits e its) ∙ yields));
    chains = record {
      depth = λ e. 0;
      deeper = λ e f its. absurd (nobody e f its);
      between = λ e f its. absurd (nobody e f its);
      apart = λ e f g other one two. absurd (nobody e f one);
      blocked = λ e its. absurd (waiting≢blocked (sym (first-waits e its.partition) ∙ its.status));
    };
  }
    where
      waiting≢yielded : Waiting ≡ Yielded → ⊥
      waiting≢yielded h = cc

  -- and nobody runs elsewhere
  pub first-here : (e : ℕ) → IsElsewhere c e → ⊥
  first-here e its = waiting≢elsewhere (sym (first-waits e its.partition) ∙ its.status)
    where
      waiting≢elsewhere : Waiting ≡ RunsElsewhere → ⊥
      waiting≢elsewhere h = cc

pub first-schedule-sound : (n : ℕ) → 1 ≤ n → n ≤ MOST_ENDPOINTS → IsSound (first_schedule n)
first-schedule-sound n some few = first-sound n some
