-- SPDX-License-Identifier: MIT OR Apache-2.0
use Rattle.std.proofs.Common.{arith}
use Rattle.ffa_memdesc.proofs.Writes.{set_is}
use Rattle.ffa_memdesc.proofs.put.put_u8.Goals as goal

pub returns : goal.returns
returns c = set_is c.args.at c.args.value c.args.out.now (omega arith)
