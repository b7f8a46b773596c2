-- SPDX-License-Identifier: MIT OR Apache-2.0
use Rattle.std.proofs.Common.{◌+◌, refl, arith}
use Rattle.ffa_model.specs.ResponseBytes.{le}
use Rattle.ffa_memdesc.proofs.Writes.{one, two, four, wrote_as, five_parts}
use Rattle.play_trace.proofs.access.write_access.Goals as goal

pub returns-clause-bytes : goal.returns-clause-bytes
returns-clause-bytes c = λ old front w0.
    let at = c.args.at in
    let w1 = two _ _ _ _ at (at + 2) _ refl w0 c.put_u16.ensures in
    let w2 = one _ _ _ _ (at + 2) (at + 3) _ (omega arith) w1 c.put_u8.ensures in
    let w3 = one _ _ _ _ (at + 3) (at + 4) _ (omega arith) w2 c.put_u8-2.ensures in
    let w4 = four _ _ _ _ (at + 4) (at + 8) _ (omega arith) w3 c.put_u32.ensures in
    let w5 = c.write_access_rest.ensures old _ w4 in
    wrote_as _ _ _ _ _ (five_parts front (le 2 c.args.endpoint.0) _ _ _ _) w5
