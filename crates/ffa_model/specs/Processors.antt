-- SPDX-License-Identifier: MIT OR Apache-2.0
-- Interrupts (DEN0077A, 9), and several processors. Each processor runs the normal world or a partition, and an operation is a
-- step of the state as its processor sees it.
use Rattle.std.specs.List.{list_all}
use Rattle.std.specs.Prelude.{◌≡◌, ◌≢◌, ◌↔◌, ◌<◌, ℕ, ◌==◌, Bool, ◌&&◌, List, [], ◌∷◌, length, nat_lt, Option, Some, None, replicate, slice_index_or, slice_set, if◌then◌else◌}
use Rattle.ffa_model.specs.declared.call.Call as calls
use Rattle.ffa_model.specs.declared.call.Call.TheVariants.{Run}
use Rattle.ffa_model.specs.declared.function.TheConstants.{FFA_INTERRUPT}
use Rattle.ffa_model.specs.declared.limits.TheConstants.{MOST_PROCESSORS}
use Rattle.ffa_model.specs.declared.operation.Act.{Act}
use Rattle.ffa_model.specs.declared.operation.Act.TheVariants.{Operate, Interrupt}
use Rattle.ffa_model.specs.declared.operation.Effect.{Effect}
use Rattle.ffa_model.specs.declared.operation.Effect.TheVariants as effects
use Rattle.ffa_model.specs.declared.operation.Op.{Op}
use Rattle.ffa_model.specs.declared.operation.Op.TheVariants.{Call}
use Rattle.ffa_model.specs.declared.operation.Outcome.TheVariants.{Done}
use Rattle.ffa_model.specs.declared.schedule.Status.{Status}
use Rattle.ffa_model.specs.declared.schedule.Status.TheVariants.{Blocked, Preempted, RunsElsewhere}
use Rattle.ffa_model.specs.Numbers.{Identifier}
use Rattle.ffa_model.specs.State.{State, is_partition_among}
use Rattle.ffa_model.specs.Calls.{Stepped, replied}
use Rattle.ffa_model.specs.Registers.{decode}
use Rattle.ffa_model.specs.RunStates.{Schedule, is_preempted, schedule_of, scheduled, status_in, switched, with_schedule}
use Rattle.ffa_model.specs.Sound.{IsPartition}
use Rattle.ffa_model.specs.Step.{step}

-- the runner stops in this status with the work that it has, and e goes on with its own
abbrev pub with_switch : State → Status → Identifier → State
with_switch s status e = with_schedule s (switched (schedule_of s) status e)

-- INTERRUPTS

-- An interrupt preempts a partition that runs: the normal world runs, and sees which it was. Where the normal world runs it takes
-- the interrupt itself, and nothing is done.
abbrev pub interrupt : State → Stepped
interrupt s =
    if s.runner == 0 then record { state = s; outcome = Done }
    else replied (with_switch s Preempted 0) (scheduled FFA_INTERRUPT s.runner)

-- whether FFA_RUN of a target among this many endpoints, in one of its execution contexts, lets a preempted partition go on
abbrev pub may_resume : ℕ → Schedule → Identifier → ℕ → Bool
may_resume endpoints schedule target context =
    schedule.runner == 0 && (is_partition_among endpoints target && (context == 0 && is_preempted (status_in schedule target)))

abbrev pub resumed_by_call : State → calls.Call → Option ℕ
resumed_by_call s (Run target context) = if may_resume (length s.parties) (schedule_of s) target.0 context then Some target.0 else None
resumed_by_call s call = None

-- the preempted partition that goes on by an operation, if one does
abbrev pub resumed_by : State → Op → Option ℕ
resumed_by s (Call x) = resumed_by_call s (decode x)
resumed_by s op = None

pub record Effected : Type 0 where
  pub state : State
  pub effect : Effect

abbrev pub effected : State → Op → Option ℕ → Effected
effected s op None = record { state = (step s op).state; effect = effects.Outcome (step s op).outcome }
effected s op (Some e) = record { state = with_switch s Blocked e; effect = effects.Resumed (record { 0 = e }) }

-- One operation of the runner where partitions may be preempted: FFA_RUN of one that was lets it go on, with its own registers,
-- and all else is a step.
-- It is an effect over the step. An outcome for it would be one more case in each clause about outcomes.
abbrev pub step_resuming : State → Op → Effected
step_resuming s op = effected s op (resumed_by s op)

-- PROCESSORS

-- which processor did the last operation, and who runs on each other one; what is noted of that one itself counts for nothing
pub record Processors : Type 0 where
  pub current : ℕ
  pub runners : List ℕ

-- at first the normal world runs on all
abbrev pub first_processors : Processors
first_processors = record { current = 0; runners = replicate MOST_PROCESSORS 0 }

abbrev pub runner_on : Processors → ℕ → ℕ
runner_on processors p = slice_index_or processors.runners p 0

-- how another processor sees the runner of this one: the normal world is there too
abbrev pub left_status : Identifier → Status
left_status e = if e == 0 then Blocked else RunsElsewhere

-- the state as another processor sees it, on which e runs
abbrev pub moved_to : State → Identifier → State
moved_to s e = with_switch s (left_status s.runner) e

-- the state as processor p sees it
abbrev pub on : Processors → ℕ → State → State
on processors p s = if processors.current == p then s else moved_to s (runner_on processors p)

-- another processor does an operation: from then on the runner of the one before is noted
abbrev pub noted : Processors → ℕ → State → Processors
noted processors p s = record { current = p; runners = slice_set processors.runners processors.current s.runner }

-- p does an operation
abbrev pub turned : Processors → ℕ → State → Processors
turned processors p s = if processors.current == p then processors else noted processors p s

-- e is a partition that runs elsewhere
pub record IsElsewhere (schedule : Schedule) (e : Identifier) : Type 0 where
  pub partition : IsPartition schedule e
  pub status : status_in schedule e ≡ RunsElsewhere

-- the same partitions run elsewhere
abbrev pub SameElsewhere : Schedule → Schedule → Type 0
SameElsewhere one other = (e : ℕ) → IsElsewhere one e ↔ IsElsewhere other e

-- no partition runs elsewhere, as where one processor alone has done operations
abbrev pub IsHere : State → Type 0
IsHere s = (e : ℕ) → IsElsewhere (schedule_of s) e → ⊥

-- another processor than the current one
pub record IsAnother (processors : Processors) (p : ℕ) : Type 0 where
  pub within : p < length processors.runners
  pub other : p ≢ processors.current

-- The processors and the state fit together: whoever runs elsewhere does so on one other processor, and there run no others but
-- the normal world.
pub record ArePlaced (processors : Processors) (s : State) : Type 0 where
  pub count : length processors.runners ≡ MOST_PROCESSORS
  pub current : processors.current < length processors.runners
  pub others : (p : ℕ) → IsAnother processors p → runner_on processors p ≢ 0 → IsElsewhere (schedule_of s) (runner_on processors p)
  pub apart : (p q : ℕ) → IsAnother processors p → IsAnother processors q → runner_on processors p ≢ 0
      → runner_on processors p ≡ runner_on processors q → p ≡ q
  pub found : (e : ℕ) → IsElsewhere (schedule_of s) e → (p : ℕ) × IsAnother processors p × (runner_on processors p ≡ e)

-- one operation of processor p
abbrev pub step_on : Processors → ℕ → State → Op → Effected
step_on processors p s op = step_resuming (on processors p s) op

-- and an interrupt that it takes
abbrev pub interrupt_on : Processors → ℕ → State → Stepped
interrupt_on processors p s = interrupt (on processors p s)

-- LISTS OF ACTS

-- a machine that several processors run
pub record Shared : Type 0 where
  pub processors : Processors
  pub state : State

-- what comes of an act in a state as the processor sees it
abbrev pub acted : State → Act → Effected
acted s (Operate op) = step_resuming s op
acted s Interrupt = record { state = (interrupt s).state; effect = effects.Outcome (interrupt s).outcome }

-- the machine's state as processor p sees it
abbrev pub state_on : Shared → ℕ → State
state_on m p = on m.processors p m.state

abbrev pub acted_on : Shared → ℕ × Act → Effected
acted_on m x = acted (state_on m x.0) x.1

-- behind an act of the processor beside it, and behind a list of them
abbrev pub shared_after : Shared → ℕ × Act → Shared
shared_after m x = record { processors = turned m.processors x.0 m.state; state = (acted_on m x).state }

abbrev pub shared_after_all : Shared → List (ℕ × Act) → Shared
shared_after_all m [] = m
shared_after_all m (x ∷ xs) = shared_after_all (shared_after m x) xs

-- what comes of each
abbrev pub effects_on : Shared → List (ℕ × Act) → List Effect
effects_on m [] = []
effects_on m (x ∷ xs) = (acted_on m x).effect ∷ effects_on (shared_after m x) xs

-- there are these processors
abbrev pub are_there : Shared → List (ℕ × Act) → Bool
are_there m xs = list_all (λ (x : ℕ × Act). nat_lt x.0 (length m.processors.runners)) xs
