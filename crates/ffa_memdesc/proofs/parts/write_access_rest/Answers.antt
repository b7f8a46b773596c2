-- SPDX-License-Identifier: MIT OR Apache-2.0
use Rattle.std.proofs.Common.{◌+◌, inl, inr, arith}
use Rattle.ffa_memdesc.proofs.Writes.{eight, wrote_as, three_parts}
use Rattle.ffa_memdesc.proofs.parts.write_access_rest.Goals as goal

pub returns-in-Compact : goal.returns-in-Compact
returns-in-Compact c = λ old front w0.
    let at = c.args.at in
    let w1 = eight _ _ _ _ (at + 8) (at + 16) _ (omega arith) w0 c.put_u64.ensures in
    elim c.in-Compact.is [ inl is ↦ rw is w1 | inr is ↦ rw is w1 ]

pub returns-in-V1_2 : goal.returns-in-V1_2
returns-in-V1_2 c = λ old front w0.
    let at = c.args.at in
    let w1 = eight _ _ _ _ (at + 8) (at + 16) _ (omega arith) w0 c.put_u64.ensures in
    let w2 = eight _ _ _ _ (at + 16) (at + 24) _ (omega arith) w1 c.put_u64-in-V1_2.ensures in
    let w3 = eight _ _ _ _ (at + 24) (at + 32) _ (omega arith) w2 c.put_u64-in-V1_2-2.ensures in
    rw c.in-V1_2.is (wrote_as _ _ _ _ _ (three_parts front _ _ _) w3)
