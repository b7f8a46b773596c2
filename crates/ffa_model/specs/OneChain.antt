-- SPDX-License-Identifier: MIT OR Apache-2.0
-- The run states where no interrupt stopped a partition, and one processor alone did operations.
use Rattle.std.specs.Prelude.{◌≡◌, ℕ, nat_eq, true, List, [], ◌∷◌, Some}
use Rattle.std.specs.List.{list_any, IsDistinct}
use Rattle.ffa_model.specs.declared.schedule.Status.TheVariants.{Blocked, Preempted, RunsElsewhere}
use Rattle.ffa_model.specs.Numbers.{Identifier}
use Rattle.ffa_model.specs.RunStates.{Schedule, status_in, work_in}
use Rattle.ffa_model.specs.Sound.{IsEndpoint, IsPartition, origin}

-- no partition was preempted, and none runs elsewhere
pub record IsSimple (schedule : Schedule) : Type 0 where
  pub preempted : (e : ℕ) → IsPartition schedule e → status_in schedule e ≡ Preempted → ⊥
  pub elsewhere : (e : ℕ) → IsPartition schedule e → status_in schedule e ≡ RunsElsewhere → ⊥

-- from e on, each of these partitions works for the one before it, which is blocked for it, and the last runs
abbrev pub IsLinked : Schedule → Identifier → List ℕ → Type 0
IsLinked schedule e [] = schedule.runner ≡ e
IsLinked schedule e (f ∷ fs) =
    (status_in schedule e ≡ Blocked) × (IsPartition schedule f) × (origin (work_in schedule f) ≡ Some e)
    × IsLinked schedule f fs

-- the one chain from the normal world to the runner, through each blocked endpoint once
pub record IsOneChain (schedule : Schedule) : Type 0 where
  pub partitions : List ℕ
  pub linked : IsLinked schedule 0 partitions
  pub once : IsDistinct nat_eq (0 ∷ partitions)
  pub blocked : (e : ℕ) → IsEndpoint schedule e → status_in schedule e ≡ Blocked
      → list_any (nat_eq e) (0 ∷ partitions) ≡ true
