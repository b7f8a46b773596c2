-- SPDX-License-Identifier: MIT OR Apache-2.0
use Rattle.std.proofs.Common.{arith}
use Rattle.ffa_memdesc.proofs.Numbers.{u16_bytes}
use Rattle.ffa_memdesc.proofs.bytes.read_u16.Goals as goal

pub returns : goal.returns
returns g c = grind (arith, u16_bytes)
