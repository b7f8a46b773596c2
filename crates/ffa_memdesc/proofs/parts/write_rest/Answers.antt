-- SPDX-License-Identifier: MIT OR Apache-2.0
use Rattle.std.proofs.Common.{refl, inl, inr}
use Rattle.ffa_memdesc.proofs.Writes.{four, eight, wrote_as, three_parts}
use Rattle.ffa_memdesc.proofs.parts.write_rest.Goals as goal

pub returns-in-V1_1 : goal.returns-in-V1_1
returns-in-V1_1 c = λ old front w0.
    let w1 = four _ _ _ _ 32 36 _ refl w0 c.put_u32.ensures in
    let w2 = four _ _ _ _ 36 40 _ refl w1 c.put_u32-in-V1_1.ensures in
    let w3 = eight _ _ _ _ 40 48 _ refl w2 c.put_u64.ensures in
    let all = wrote_as _ _ _ _ _ (three_parts front _ _ _) w3 in
    elim c.in-V1_1.is [ inl is ↦ rw is all | inr is ↦ rw is all ]
