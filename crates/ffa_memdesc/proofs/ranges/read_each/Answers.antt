-- SPDX-License-Identifier: MIT OR Apache-2.0
use Rattle.std.proofs.Common.{arith}
use Rattle.ffa_memdesc.proofs.Entries.{range_more}
use Rattle.ffa_memdesc.proofs.ranges.read_each.Goals as goal

pub loop-i-preserved : goal.loop-i-preserved
loop-i-preserved g c =
    let (size, items, whole) = c.loop-i.invariant in
    let more = range_more (g.B.Bytes.bytes c.args.bytes.now) c.args.composite c.loop-i.i c.loop-i.ranges.items c.push.new.self.items c.in-Ok.range items whole c.in-Ok.ensures.found (c.in-Ok.ensures.first c.loop-i.i) c.push.ensures.items in
    (omega arith, more.0, more.1)
