-- SPDX-License-Identifier: MIT OR Apache-2.0
use Rattle.std.proofs.Common.{refl}
use Rattle.ffa_memdesc.proofs.Writes.{wrote_start, two, four, eight}
use Rattle.play_trace.proofs.heading.write_heading.Goals as goal

pub returns : goal.returns
returns c =
    let old = c.args.page.now in
    let w1 = two _ _ _ _ 0 2 _ refl (wrote_start old) c.put_u16.ensures in
    let w2 = two _ _ _ _ 2 4 _ refl w1 c.put_u16-2.ensures in
    let w3 = four _ _ _ _ 4 8 _ refl w2 c.put_u32.ensures in
    let w4 = eight _ _ _ _ 8 16 _ refl w3 c.put_u64.ensures in
    let w5 = eight _ _ _ _ 16 24 _ refl w4 c.put_u64-2.ensures in
    let w6 = four _ _ _ _ 24 28 _ refl w5 c.put_u32-2.ensures in
    let w7 = four _ _ _ _ 28 32 _ refl w6 c.put_u32-3.ensures in
    let rest = c.write_rest.ensures old _ w7 in
    rw (← c.told_access_size.ensures) rest
