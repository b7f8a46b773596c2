-- SPDX-License-Identifier: MIT OR Apache-2.0
-- FOR PROOFS ALONE
-- What holds of the run states that are kept.
use Rattle.std.specs.Prelude.{◌≤◌, length}
use Rattle.ffa_model.specs.RunStates.{Schedule}
use Rattle.ffa_model.specs.Sound.{IsSound}

pub record IsKept (schedule : Schedule) : Type 0 where
  pub sound : IsSound schedule
  pub some : 1 ≤ length schedule.works
