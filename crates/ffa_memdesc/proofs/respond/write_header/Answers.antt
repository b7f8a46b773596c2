-- SPDX-License-Identifier: MIT OR Apache-2.0
use Rattle.std.proofs.Common.{ℕ, ◌++◌, refl, subst}
use Rattle.ffa_model.specs.ResponseBytes.{attributes_told, le}
use Rattle.ffa_memdesc.specs.Writing.{Wrote}
use Rattle.ffa_memdesc.proofs.Writes.{wrote_start, two, four, eight}
use Rattle.ffa_memdesc.proofs.respond.write_header.Goals as goal

pub returns : goal.returns
returns c =
    let w0 = wrote_start c.args.out.now in
    let w1 = two _ _ _ _ 0 2 _ refl w0 c.put_u16.ensures in
    let w2 = two _ _ _ _ 2 4 _ refl w1 c.put_u16-2.ensures in
    let attributes = subst (λ (x : ℕ). Wrote c.args.out.now (le 2 c.args.header.now.sender.0 ++ le 2 x) 4 c.put_u16-2.new.out) c.attributes_told.ensures w2 in
    let w3 = four _ _ _ _ 4 8 _ refl attributes c.put_u32.ensures in
    let flags =
    subst (λ (x : ℕ). Wrote c.args.out.now (le 2 c.args.header.now.sender.0 ++ le 2 (attributes_told c.args.version c.args.header.now.normal) ++ le 4 x) 8 c.put_u32.new.out)
    c.flags_of.ensures w3
    in
    let w4 = eight _ _ _ _ 8 16 _ refl flags c.put_u64.ensures in
    let w5 = eight _ _ _ _ 16 24 _ refl w4 c.put_u64-2.ensures in
    let w6 = four _ _ _ _ 24 28 _ refl w5 c.put_u32-2.ensures in
    let w7 = four _ _ _ _ 28 32 _ refl w6 c.put_u32-3.ensures in
    let rest = c.write_rest.ensures c.args.out.now _ w7 in
    rw (← c.told_access_size.ensures) rest
