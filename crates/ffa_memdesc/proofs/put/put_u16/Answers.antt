-- SPDX-License-Identifier: MIT OR Apache-2.0
use Rattle.std.proofs.Common.{arith}
use Rattle.ffa_model.specs.ResponseBytes.{le}
use Rattle.ffa_memdesc.proofs.Writes.{put_is}
use Rattle.ffa_memdesc.proofs.put.put_u16.Goals as goal

pub returns : goal.returns
unfolding le
returns c = put_is c.args.at 2 c.args.out.now (le 2 c.args.value) c.write_u16.new.buf (omega arith) c.write_u16.ensures
