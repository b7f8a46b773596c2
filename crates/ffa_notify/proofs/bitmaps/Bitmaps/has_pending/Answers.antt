-- SPDX-License-Identifier: MIT OR Apache-2.0
use Rattle.ffa_model.specs.Notifications.{manager_class, normal_class, partition_class}
use Rattle.ffa_notify.proofs.Tests.{some-of-three, some-pending}
use Rattle.ffa_notify.proofs.bitmaps.Bitmaps.has_pending.Goals as goal

pub returns : goal.returns
returns c =
    some-of-three c.args.self.now c.args.receiver.0 _ _ _
    (some-pending c.args.self.now c.args.receiver.0 partition_class c.pending-partitions.result c.pending-partitions.type_inv c.pending-partitions.ensures)
    (some-pending c.args.self.now c.args.receiver.0 normal_class c.pending-normal_world.result c.pending-normal_world.type_inv c.pending-normal_world.ensures)
    (some-pending c.args.self.now c.args.receiver.0 manager_class c.pending-manager.result c.pending-manager.type_inv c.pending-manager.ensures)
