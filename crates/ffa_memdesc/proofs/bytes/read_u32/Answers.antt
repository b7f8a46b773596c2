-- SPDX-License-Identifier: MIT OR Apache-2.0
use Rattle.std.proofs.Common.{arith}
use Rattle.ffa_memdesc.proofs.Numbers.{u32_bytes}
use Rattle.ffa_memdesc.proofs.bytes.read_u32.Goals as goal

pub returns : goal.returns
returns g c = grind (arith, u32_bytes)
