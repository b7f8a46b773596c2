-- SPDX-License-Identifier: MIT OR Apache-2.0
-- What sound run states are: the first ones are, and each operation, interrupt and change of processor keeps them so.
use Rattle.std.specs.Prelude.{◌≡◌, ◌≢◌, ◌⊎◌, ◌↔◌, ◌<◌, ℕ, true, length, Option, Some, None}
use Rattle.ffa_model.specs.declared.schedule.Status.{Status}
use Rattle.ffa_model.specs.declared.schedule.Status.TheVariants.{Running, Waiting, Yielded, Blocked, Preempted, RunsElsewhere}
use Rattle.ffa_model.specs.declared.schedule.Work.{Work}
use Rattle.ffa_model.specs.declared.schedule.Work.TheVariants.{Run, Request}
use Rattle.ffa_model.specs.Numbers.{Identifier}
use Rattle.ffa_model.specs.State.{is_partition_among, is_known_among}
use Rattle.ffa_model.specs.RunStates.{Schedule, is_stopped, status_in, work_in}

-- the endpoint that set the work going
abbrev pub origin : Option Work → Option ℕ
origin None = None
origin (Some Run) = Some 0
origin (Some (Request by)) = Some by.0

abbrev pub IsPartition : Schedule → Identifier → Type 0
IsPartition schedule e = is_partition_among (length schedule.works) e ≡ true

abbrev pub IsEndpoint : Schedule → Identifier → Type 0
IsEndpoint schedule e = is_known_among (length schedule.works) e ≡ true

-- a partition works for e
pub record IsFor (schedule : Schedule) (e : Identifier) (f : Identifier) : Type 0 where
  pub partition : IsPartition schedule f
  pub works : origin (work_in schedule f) ≡ Some e

-- a partition that is blocked
pub record IsBlocked (schedule : Schedule) (e : Identifier) : Type 0 where
  pub partition : IsPartition schedule e
  pub status : status_in schedule e ≡ Blocked

-- Works are links, each from who set it going to who has it, and all lead away from the normal world: each goes deeper. A
-- partition that is worked for is blocked, for one other alone, and each that is blocked is worked for. So from the normal
-- world chains of blocked partitions lead to the runner, and to each partition that has yielded, was preempted or runs on
-- another processor, and no two of them have a partition in common.
pub record AreChained (schedule : Schedule) : Type 0 where
  pub depth : ℕ → ℕ
  pub deeper : (e f : ℕ) → IsFor schedule e f → depth e < depth f
  pub between : (e f : ℕ) → IsFor schedule e f → (e ≡ 0) ⊎ IsBlocked schedule e
  pub apart : (e f g : ℕ) → e ≢ 0 → IsFor schedule e f → IsFor schedule e g → f ≡ g
  pub blocked : (e : ℕ) → IsBlocked schedule e → (f : ℕ) × IsFor schedule e f

-- Exactly one endpoint runs. The normal world runs or is blocked, and has no work. A partition has none exactly where it
-- waits, and one that has yielded works for the normal world.
pub record IsSound (schedule : Schedule) : Type 0 where
  pub each : length schedule.statuses ≡ length schedule.works
  pub runner : IsEndpoint schedule schedule.runner
  pub runs : status_in schedule schedule.runner ≡ Running
  pub alone : (e : ℕ) → IsEndpoint schedule e → status_in schedule e ≡ Running → e ≡ schedule.runner
  pub normal : (status_in schedule 0 ≡ Running) ⊎ (status_in schedule 0 ≡ Blocked)
  pub no_work : work_in schedule 0 ≡ None
  pub idle : (e : ℕ) → IsPartition schedule e → (work_in schedule e ≡ None) ↔ (status_in schedule e ≡ Waiting)
  pub yielded : (e : ℕ) → IsPartition schedule e → status_in schedule e ≡ Yielded → origin (work_in schedule e) ≡ Some 0
  pub chains : AreChained schedule

-- how the runner may stop with the work that it has: the normal world is blocked, and a partition has yielded what it does for
-- the normal world, was preempted, or runs elsewhere
abbrev pub MayStop : Schedule → Status → Type 0
MayStop schedule Running = ⊥
MayStop schedule Waiting = ⊥
MayStop schedule Yielded = origin (work_in schedule schedule.runner) ≡ Some 0
MayStop schedule Blocked = schedule.runner ≡ 0
MayStop schedule Preempted = schedule.runner ≢ 0
MayStop schedule RunsElsewhere = schedule.runner ≢ 0

-- a partition that has stopped in the midst of its work
pub record HasStopped (schedule : Schedule) (e : Identifier) : Type 0 where
  pub partition : IsPartition schedule e
  pub stopped : is_stopped (status_in schedule e) ≡ true

-- who may go on with the work that it has, if any
abbrev pub MayGoOn : Schedule → Identifier → Type 0
MayGoOn schedule e = (e ≡ 0) ⊎ HasStopped schedule e
