-- SPDX-License-Identifier: MIT OR Apache-2.0
-- Who runs, who waits, and for whom a partition works (DEN0077A, 8.2 and 15).
use Rattle.std.specs.Prelude.{ℕ, ◌==◌, Bool, true, false, not, ◌&&◌, ◌||◌, List, [], ◌∷◌, length, replicate, Option, Some, None, slice_index_or, slice_set, is_some}
use Rattle.ffa_model.specs.declared.refusal.Refusal.{Refusal}
use Rattle.ffa_model.specs.declared.refusal.Refusal.TheVariants.{SenderIsAnother, FlagsReserved, ReceiverUnknown, ReceiverIsCaller, ReceiverIsNormalWorld, RequestsUnsent, RequestsUnreceived, ReceiverNotWaiting, NoRequest, AnswerMisdirected, NotNormalWorld, TargetUnknown, ContextUnknown, TargetNotReady, NotRun, NobodyToYieldTo}
use Rattle.ffa_model.specs.declared.schedule.Status.{Status}
use Rattle.ffa_model.specs.declared.schedule.Status.TheVariants.{Running, Waiting, Yielded, Blocked, Preempted, RunsElsewhere}
use Rattle.ffa_model.specs.declared.schedule.Work.{Work}
use Rattle.ffa_model.specs.declared.schedule.Work.TheVariants.{Run, Request}
use Rattle.ffa_model.specs.declared.call.Reply.{Reply}
use Rattle.ffa_model.specs.declared.call.DirectMessage.{DirectMessage}
use Rattle.ffa_model.specs.declared.call.Reply.TheVariants.{Passed, Scheduled}
use Rattle.ffa_model.specs.declared.function.TheConstants.{FFA_RUN, FFA_MSG_WAIT, FFA_YIELD}
use Rattle.ffa_model.specs.declared.endpoint.Version.{Version}
use Rattle.ffa_model.specs.declared.endpoint.Version.TheVariants.{V1_2}
use Rattle.ffa_model.specs.Bits.{is_set}
use Rattle.ffa_model.specs.Numbers.{Identifier}
use Rattle.ffa_model.specs.Identifiers.{place}
use Rattle.ffa_model.specs.Lists.{listed}
use Rattle.ffa_model.specs.First.{first_status}
use Rattle.ffa_model.specs.State.{State, Party, is_partition_among, is_known_among, has_property, version_of}
use Rattle.ffa_model.specs.Buffers.{with_rx}
use Rattle.ffa_model.specs.Calls.{Service, success}

-- the run states of all endpoints
pub record Schedule : Type 0 where
  pub runner : Identifier
  pub statuses : List Status  -- by endpoint
  pub works : List (Option Work)  -- by endpoint

abbrev pub status_in : Schedule → Identifier → Status
status_in schedule e = slice_index_or schedule.statuses (place e) Waiting

abbrev pub work_in : Schedule → Identifier → Option Work
work_in schedule e = slice_index_or schedule.works (place e) None

-- the normal world runs, and each of its partitions waits
abbrev pub first_schedule : ℕ → Schedule
first_schedule endpoints =
    record { runner = 0; statuses = listed endpoints first_status; works = replicate endpoints None }

abbrev pub is_waiting : Status → Bool
is_waiting Waiting = true
is_waiting status = false

abbrev pub is_yielded : Status → Bool
is_yielded Yielded = true
is_yielded status = false

abbrev pub is_preempted : Status → Bool
is_preempted Preempted = true
is_preempted status = false

-- whether an endpoint has stopped in the midst of its work, with which it may go on
abbrev pub is_stopped : Status → Bool
is_stopped Yielded = true
is_stopped Preempted = true
is_stopped RunsElsewhere = true
is_stopped status = false

-- whether the normal world gave the cycles
abbrev pub is_run : Option Work → Bool
is_run (Some Run) = true
is_run work = false

-- the endpoint whose request the work answers
abbrev pub requester : Option Work → Option Identifier
requester (Some (Request by)) = Some by.0
requester work = None

abbrev pub is_endpoint : Identifier → Option ℕ → Bool
is_endpoint e None = false
is_endpoint e (Some by) = by == e

-- the changes of run states
abbrev pub with_status : Schedule → Identifier → Status → Schedule
with_status schedule e status = record schedule { statuses = slice_set schedule.statuses (place e) status }

abbrev pub with_work : Schedule → Identifier → Option Work → Schedule
with_work schedule e work = record schedule { works = slice_set schedule.works (place e) work }

-- the runner stops in this status, and e runs
abbrev pub switched : Schedule → Status → Identifier → Schedule
switched schedule status e = record (with_status (with_status schedule schedule.runner status) e Running) { runner = e }

-- the runner is blocked for the receiver, which answers its request
abbrev pub requested : Schedule → Identifier → Schedule
requested schedule receiver =
    with_work (switched schedule Blocked receiver) receiver (Some (Request (record { 0 = schedule.runner })))

-- the runner waits without work, and e runs
abbrev pub finished : Schedule → Identifier → Schedule
finished schedule e = with_work (switched schedule Waiting e) schedule.runner None

-- a waiting target gets work, and a yielded one keeps its own; no other is asked for, since a guard refuses it
abbrev pub given_cycles : Schedule → Identifier → Status → Schedule
given_cycles schedule e Waiting = with_work (switched schedule Blocked e) e (Some Run)
given_cycles schedule e Yielded = switched schedule Blocked e
given_cycles schedule e status = schedule

-- the checks of each call, in order

-- FFA_MSG_SEND_DIRECT_REQ
abbrev pub request_guards : List Party → Schedule → DirectMessage → List (Bool × Refusal)
request_guards parties schedule message =
    (message.sender.0 == schedule.runner, SenderIsAnother)
    ∷ (message.flags == 0, FlagsReserved)
    ∷ (is_known_among (length parties) message.receiver.0, ReceiverUnknown)
    ∷ (not (message.receiver.0 == schedule.runner), ReceiverIsCaller)
    ∷ (not (message.receiver.0 == 0), ReceiverIsNormalWorld)
    ∷ (has_property parties schedule.runner 1, RequestsUnsent)
    ∷ (has_property parties message.receiver.0 0, RequestsUnreceived)
    ∷ (is_waiting (status_in schedule message.receiver.0), ReceiverNotWaiting)
    ∷ []

-- FFA_MSG_SEND_DIRECT_RESP
abbrev pub response_guards : Schedule → DirectMessage → List (Bool × Refusal)
response_guards schedule message =
    (is_some (requester (work_in schedule schedule.runner)), NoRequest)
    ∷ (message.sender.0 == schedule.runner && is_endpoint message.receiver.0 (requester (work_in schedule schedule.runner)), AnswerMisdirected)
    ∷ (message.flags == 0, FlagsReserved)
    ∷ []

-- FFA_RUN among this many endpoints, of a target in one of its execution contexts
abbrev pub run_guards : ℕ → Schedule → Identifier → ℕ → List (Bool × Refusal)
run_guards endpoints schedule target context =
    (schedule.runner == 0, NotNormalWorld)
    ∷ (is_partition_among endpoints target, TargetUnknown)
    ∷ (context == 0, ContextUnknown)
    ∷ (is_waiting (status_in schedule target) || is_yielded (status_in schedule target), TargetNotReady)
    ∷ []

-- FFA_MSG_WAIT
abbrev pub wait_guards : Schedule → List (Bool × Refusal)
wait_guards schedule = (is_run (work_in schedule schedule.runner), NotRun) ∷ []

-- FFA_YIELD
abbrev pub yield_guards : Schedule → List (Bool × Refusal)
yield_guards schedule = (is_run (work_in schedule schedule.runner) || is_endpoint 0 (requester (work_in schedule schedule.runner)), NobodyToYieldTo) ∷ []

-- what the endpoint that runs next sees of a partition that is given cycles, or that gives them back
abbrev pub scheduled : ℕ → Identifier → Reply
scheduled function partition = Scheduled function (record { 0 = partition })

-- a partition that waited sees FFA_RUN, and one that had yielded that its FFA_YIELD is done; no other is asked for, since a
-- guard refuses it
abbrev pub run_reply : Identifier → Status → Reply
run_reply target Waiting = scheduled FFA_RUN target
run_reply target status = success 0 0

-- ON A STATE
abbrev pub schedule_of : State → Schedule
schedule_of s = record { runner = s.runner; statuses = s.statuses; works = s.works }

abbrev pub with_schedule : State → Schedule → State
with_schedule s schedule = record s { runner = schedule.runner; statuses = schedule.statuses; works = schedule.works }

abbrev pub direct_request : State → DirectMessage → Service
direct_request s message =
    record {
      guards = request_guards s.parties (schedule_of s) message;
      state = with_schedule s (requested (schedule_of s) message.receiver.0);
      reply = Passed message;
    }

-- the guards leave one requester, who is the message's receiver
abbrev pub direct_response : State → DirectMessage → Service
direct_response s message =
    record {
      guards = response_guards (schedule_of s) message;
      state = with_schedule s (finished (schedule_of s) message.receiver.0);
      reply = Passed message;
    }

abbrev pub run_partition : State → Identifier → ℕ → Service
run_partition s target context =
    record {
      guards = run_guards (length s.parties) (schedule_of s) target context;
      state = with_schedule s (given_cycles (schedule_of s) target (status_in (schedule_of s) target));
      reply = run_reply target (status_in (schedule_of s) target);
    }

-- whether FFA_MSG_WAIT with these flags leaves RX as it is: so bit 0 says, in FF-A 1.2
abbrev pub keeps_rx : Version → ℕ → Bool
keeps_rx V1_2 flags = is_set 0 flags
keeps_rx version flags = false

-- the caller waits, and its RX is empty, unless that is kept
abbrev pub waited : State → Bool → State
waited s true = with_schedule s (finished (schedule_of s) 0)
waited s false = with_rx (with_schedule s (finished (schedule_of s) 0)) s.runner false

-- FFA_MSG_WAIT; a message may fill the caller's RX while it waits
abbrev pub msg_wait : State → ℕ → Service
msg_wait s flags =
    record {
      guards = wait_guards (schedule_of s);
      state = waited s (keeps_rx (version_of s s.runner) flags);
      reply = scheduled FFA_MSG_WAIT s.runner;
    }

abbrev pub yield_now : State → Service
yield_now s =
    record {
      guards = yield_guards (schedule_of s);
      state = with_schedule s (switched (schedule_of s) Yielded 0);
      reply = scheduled FFA_YIELD s.runner;
    }
