-- SPDX-License-Identifier: MIT OR Apache-2.0
use Rattle.ffa_notify.proofs.Tests.{notice-of-three}
use Rattle.ffa_notify.proofs.bitmaps.Bitmaps.has_notice.Goals as goal

pub returns : goal.returns
returns c =
    notice-of-three c.args.self.now c.args.endpoint.0 c.notice-partitions.result c.notice-normal_world.result c.notice-manager.result
    c.notice-partitions.ensures c.notice-normal_world.ensures c.notice-manager.ensures
