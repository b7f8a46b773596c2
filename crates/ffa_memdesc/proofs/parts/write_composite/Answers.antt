-- SPDX-License-Identifier: MIT OR Apache-2.0
use Rattle.std.proofs.Common.{ℕ, ◌++◌, ◌+◌, refl, subst, arith}
use Rattle.ffa_model.specs.ResponseBytes.{le}
use Rattle.ffa_memdesc.specs.Writing.{Wrote}
use Rattle.ffa_memdesc.proofs.Writes.{four, eight, wrote_as, three_parts}
use Rattle.ffa_memdesc.proofs.parts.write_composite.Goals as goal

pub returns : goal.returns
returns c = λ old front w0.
    let w1 = four _ _ _ _ c.args.at (c.args.at + 4) _ refl w0 c.put_u32.ensures in
    let total = subst (λ (x : ℕ). Wrote old (front ++ le 4 x) (c.args.at + 4) c.put_u32.new.out) c.page_total.ensures w1 in
    let w2 = four _ _ _ _ (c.args.at + 4) (c.args.at + 8) _ (omega arith) total c.put_u32-2.ensures in
    let w3 = eight _ _ _ _ (c.args.at + 8) (c.args.at + 16) _ (omega arith) w2 c.put_u64.ensures in
    wrote_as _ _ _ _ _ (three_parts front _ _ _) w3
