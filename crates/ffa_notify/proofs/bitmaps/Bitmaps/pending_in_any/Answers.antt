-- SPDX-License-Identifier: MIT OR Apache-2.0
use Rattle.std.proofs.Common.{◌∙◌}
use Rattle.std.specs.Prelude.{◌||◌}
use Rattle.std.specs.Int.RustNames.{bit_or}
use Rattle.ffa_model.specs.Bits.{is_set}
use Rattle.ffa_notify.proofs.Bits.{set-or}
use Rattle.ffa_notify.proofs.bitmaps.Bitmaps.pending_in_any.Goals as goal

pub returns : goal.returns
returns c = λ k lt.
    let partitions = c.pending-partitions.result in
    let normal = c.pending-normal_world.result in
    let manager = c.pending-manager.result in
    set-or k (bit_or partitions normal) manager
    ∙ (λ i. set-or k partitions normal i || is_set k manager)
    ∙ (λ i. (c.pending-partitions.ensures k lt i || c.pending-normal_world.ensures k lt i) || c.pending-manager.ensures k lt i)
