-- SPDX-License-Identifier: MIT OR Apache-2.0
use Rattle.std.proofs.Common.{rules}
use Rattle.ffa_memdesc.proofs.header.read_array.Goals as goal

pub returns-in-V1_1 : goal.returns-in-V1_1
returns-in-V1_1 g c = search rules
