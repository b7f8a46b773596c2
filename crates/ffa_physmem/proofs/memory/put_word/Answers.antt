-- SPDX-License-Identifier: MIT OR Apache-2.0
use Rattle.std.proofs.Common.{arith}
use Rattle.std.proofs.lemmas.Grind.{common_steps}
use Rattle.ffa_physmem.proofs.memory.put_word.Goals as goal

pub returns : goal.returns
returns c = grind (arith, common_steps)
