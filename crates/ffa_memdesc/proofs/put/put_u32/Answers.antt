-- SPDX-License-Identifier: MIT OR Apache-2.0
use Rattle.std.proofs.Common.{arith}
use Rattle.ffa_model.specs.ResponseBytes.{le}
use Rattle.ffa_memdesc.proofs.Writes.{put_is}
use Rattle.ffa_memdesc.proofs.put.put_u32.Goals as goal

pub returns : goal.returns
unfolding le
returns c = put_is c.args.at 4 c.args.out.now (le 4 c.args.value) c.write_u32.new.buf (omega arith) c.write_u32.ensures
