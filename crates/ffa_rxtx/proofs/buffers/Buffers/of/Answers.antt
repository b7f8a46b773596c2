-- SPDX-License-Identifier: MIT OR Apache-2.0
use Rattle.std.proofs.Common.{arith}
use Rattle.std.proofs.lemmas.Grind.{common_steps}
use Rattle.ffa_rxtx.proofs.buffers.Buffers.of.Goals as goal

pub returns-then-place-entries : goal.returns-then-place-entries
returns-then-place-entries c = grind (arith, common_steps)
