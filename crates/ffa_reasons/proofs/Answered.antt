-- SPDX-License-Identifier: MIT OR Apache-2.0
-- What a player sees of an operation of the selected processor, where nobody else writes.
use Rattle.std.proofs.Common.{◌≡◌, false}
use Rattle.ffa_model.specs.declared.operation.Effect.{Effect}
use Rattle.ffa_model.specs.declared.operation.Op.{Op}
use Rattle.ffa_model.specs.Processors.{step_resuming}
use Rattle.ffa_spmc.specs.Clustered.{IsEffected}
use Rattle.ffa_spmc.specs.Snapshot.{Snapshot}
use Rattle.ffa_spmc.proofs.Acts.{effected-is}

module _ (old new : Snapshot) (op : Op) (effect : Effect) (done : IsEffected false old op effect new) where
  pub state-left : new.state ≡ (step_resuming old.state op).state
  state-left = (effected-is old op effect new done).1

  pub effect-shown : effect ≡ (step_resuming old.state op).effect
  effect-shown = (effected-is old op effect new done).0
