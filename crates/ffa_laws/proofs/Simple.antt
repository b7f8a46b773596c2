-- SPDX-License-Identifier: MIT OR Apache-2.0
-- Where no partition was preempted or runs elsewhere, none is so after an operation, nor at first.
use Rattle.std.proofs.Common.{◌≡◌, ◌≢◌, ◌∙◌, ℕ, zero, suc, List, [], ◌∷◌, length, get_or, set, Option, None, sym, ap, subst, arith, length-set}
use Rattle.std.proofs.lemmas.List.{length-replicate}
use Rattle.byteorder.specs.Endian.{little_bytes}
use Rattle.ffa_model.specs.declared.endpoint.Endpoint.{Endpoint}
use Rattle.ffa_model.specs.declared.manifest.Ffa.{Ffa}
use Rattle.ffa_model.specs.declared.call.Call as calls
use Rattle.ffa_model.specs.declared.call.Call.TheVariants.{DirectRequest, DirectResponse, MemDonate, MemLend, MemRelinquish, MemRetrieve, MemShare, MsgWait, PartitionInfoGet, Run, Yield, Version}
use Rattle.ffa_model.specs.declared.operation.Op.{Op}
use Rattle.ffa_model.specs.declared.operation.Op.TheVariants.{Call, Load, Store, Fetch}
use Rattle.ffa_model.specs.declared.operation.Outcome.TheVariants.{Data, Done}
use Rattle.ffa_model.specs.declared.rights.Kind.TheVariants.{Share, Lend, Donate}
use Rattle.ffa_model.specs.declared.schedule.Status.{Status}
use Rattle.ffa_model.specs.declared.schedule.Status.TheVariants.{Running, Waiting, Yielded, Blocked, Preempted, RunsElsewhere}
use Rattle.ffa_model.specs.declared.schedule.Work.{Work}
use Rattle.ffa_model.specs.First.{first, first_held}
use Rattle.ffa_model.specs.Identifiers.{place}
use Rattle.ffa_model.specs.Memory.{fetch_fault, number_at, read_fault, size_of, store_fault, stored}
use Rattle.ffa_model.specs.MemoryReturn.{relinquish_read}
use Rattle.ffa_model.specs.MemorySend.{send_read}
use Rattle.ffa_model.specs.OneChain.{IsSimple}
use Rattle.ffa_model.specs.Registers.{decode}
use Rattle.ffa_model.specs.RunStates.{Schedule, finished, first_schedule, given_cycles, schedule_of, status_in, switched, with_work}
use Rattle.ffa_model.specs.Setup.{is_count_alone, uuid_bytes}
use Rattle.ffa_model.specs.Sound.{IsPartition}
use Rattle.ffa_model.specs.State.{State, is_partition_among}
use Rattle.ffa_model.specs.Step.{service, step}
use Rattle.ffa_model.proofs.FirstChain.{first-waits}
use Rattle.ffa_model.proofs.Places.{partition-place}
use Rattle.ffa_laws.proofs.Form.{accessed-kept, served-kept, waited-runs}
use Rattle.ffa_laws.proofs.Versions.{version-leaves}
use Rattle.ffa_laws.proofs.Showing.{informed-runs, offered-runs, relinquished-runs, retrieved-runs}

-- where an element gets another status, an element with this status had it before
was-there : (status other : Status) → other ≢ status → (statuses : List Status) (i j : ℕ) → get_or (set statuses i other) j Waiting ≡ status → get_or statuses j Waiting ≡ status
was-there status other differs [] i j is = is
was-there status other differs (x ∷ xs) zero zero is = absurd (differs is)
was-there status other differs (x ∷ xs) zero (suc j) is = is
was-there status other differs (x ∷ xs) (suc i) zero is = is
was-there status other differs (x ∷ xs) (suc i) (suc j) is = was-there status other differs xs i j is

-- how the runner stops where no interrupt and no other processor stops it
record MayLeave (status : Status) : Type 0 where
  preempted : status ≢ Preempted
  elsewhere : status ≢ RunsElsewhere

running : MayLeave Running
running = record { preempted = λ h. (cc); elsewhere = λ h. (cc) }

waiting : MayLeave Waiting
waiting = record { preempted = λ h. (cc); elsewhere = λ h. (cc) }

blocked : MayLeave Blocked
blocked = record { preempted = λ h. (cc); elsewhere = λ h. (cc) }

yielded : MayLeave Yielded
yielded = record { preempted = λ h. (cc); elsewhere = λ h. (cc) }

module _ (c : Schedule) (simple : IsSimple c) where
  simple-switched : (status : Status) (e : ℕ) → MayLeave status → IsSimple (switched c status e)
  simple-switched status e may = record {
    preempted = λ f its is. simple.preempted f its (was Preempted may.preempted running.preempted f is);
    elsewhere = λ f its is. simple.elsewhere f its (was RunsElsewhere may.elsewhere running.elsewhere f is);
  }
    where
      was : (other : Status) → status ≢ other → Running ≢ other → (f : ℕ) → status_in (switched c status e) f ≡ other → status_in c f ≡ other
      was other stops goes f is =
          was-there other status stops c.statuses (place c.runner) (place f)
          (was-there other Running goes (set c.statuses (place c.runner) status) (place e) (place f) is)

  simple-worked : (e : ℕ) (work : Option Work) → IsSimple (with_work c e work)
  simple-worked e work = record {
    preempted = λ f its is. simple.preempted f (was f its) is;
    elsewhere = λ f its is. simple.elsewhere f (was f its) is;
  }
    where
      was : (f : ℕ) → IsPartition (with_work c e work) f → IsPartition c f
      was f its = ap (λ n. is_partition_among n f) (sym (length-set c.works (place e) work)) ∙ its

module _ (s : State) (simple : IsSimple (schedule_of s)) where
  abbrev c : Schedule
  c = schedule_of s

  simple-finished : (e : ℕ) → IsSimple (finished c e)
  simple-finished e = simple-worked (switched c Waiting e) (simple-switched c simple Waiting e waiting) s.runner None

  simple-given : (e : ℕ) (status : Status) → IsSimple (given_cycles c e status)
  simple-given e Waiting = simple-worked (switched c Blocked e) (simple-switched c simple Blocked e blocked) e _
  simple-given e Yielded = simple-switched c simple Blocked e blocked
  simple-given e _ = simple

  -- run states that stay
  same-runs : (d : Schedule) → d ≡ c → IsSimple d
  same-runs d same = subst IsSimple (sym same) simple

  simple-service : (call : calls.Call) → IsSimple (schedule_of (service s call).state)
  simple-service (MsgWait flags) = subst IsSimple (sym (waited-runs s flags)) (simple-finished 0)
  simple-service (Version word) = version-leaves (λ t. IsSimple (schedule_of t)) s.ffa s word simple (λ version. simple)
  simple-service Yield = simple-switched c simple Yielded 0 yielded
  simple-service (Run target context) = simple-given target.0 (status_in c target.0)
  simple-service (DirectRequest message) =
      simple-worked (switched c Blocked message.receiver.0) (simple-switched c simple Blocked message.receiver.0 blocked) message.receiver.0 _
  simple-service (DirectResponse message) = simple-finished message.receiver.0
  simple-service (PartitionInfoGet uuid flags) = same-runs _ (informed-runs s (uuid_bytes uuid) (is_count_alone flags))
  simple-service (MemDonate x) = same-runs _ (offered-runs s Donate (send_read s Donate x.total))
  simple-service (MemLend x) = same-runs _ (offered-runs s Lend (send_read s Lend x.total))
  simple-service (MemShare x) = same-runs _ (offered-runs s Share (send_read s Share x.total))
  simple-service (MemRetrieve x) = same-runs _ (retrieved-runs s x)
  simple-service MemRelinquish = same-runs _ (relinquished-runs s (relinquish_read s))
  simple-service call = simple

  abbrev StaysSimple : State → Type 0
  StaysSimple t = IsSimple (schedule_of t)

  simple-step : (op : Op) → StaysSimple (step s op).state
  simple-step (Call x) = served-kept StaysSimple s (service s (decode x)) simple (λ none. simple-service (decode x))
  simple-step (Load address size) = accessed-kept StaysSimple s s (Data (number_at s address (size_of size))) (read_fault s address (size_of size)) simple (λ none. simple)
  simple-step (Store address size value) =
      accessed-kept StaysSimple s (stored s address (little_bytes (size_of size) value)) Done (store_fault s address (size_of size)) simple (λ none. simple)
  simple-step (Fetch address) = accessed-kept StaysSimple s s (Data (number_at s address 4)) (fetch_fault s address) simple (λ none. simple)

pub stays_simple : (s : State) (op : Op) → IsSimple (schedule_of s) → IsSimple (schedule_of (step s op).state)
stays_simple s op simple = simple-step s simple op

-- at first each partition waits
first-runs : (n : ℕ) → IsSimple (first_schedule n)
first-runs n = record {
  preempted = λ e its is. waiting.preempted (sym (waits e its) ∙ is);
  elsewhere = λ e its is. waiting.elsewhere (sym (waits e its) ∙ is);
}
  where
    waits : (e : ℕ) → IsPartition (first_schedule n) e → status_in (first_schedule n) e ≡ Waiting
    waits e its =
        let size = length-replicate {A = Option Work} n None in
        let (high, within) = partition-place n e (ap (λ k. is_partition_among k e) (sym size) ∙ its) in
        first-waits n (omega (arith, within)) e its

pub first_simple : (ffa : Ffa) (base tables blocks : ℕ) (es : List Endpoint) → IsSimple (schedule_of (first ffa base tables blocks es))
unfolding first
first_simple ffa base tables blocks es = first-runs (length es)

pub first_held_simple : (ffa : Ffa) (base tables blocks : ℕ) (es : List Endpoint) (held : ℕ → List ℕ) → IsSimple (schedule_of (first_held ffa base tables blocks es held))
unfolding first
first_held_simple ffa base tables blocks es held = first-runs (length es)
