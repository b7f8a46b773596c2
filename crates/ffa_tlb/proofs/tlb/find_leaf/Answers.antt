-- SPDX-License-Identifier: MIT OR Apache-2.0
use Rattle.std.proofs.Common.{arith}
use Rattle.std.proofs.lemmas.Grind.{common_steps}
use Rattle.ffa_tlb.proofs.tlb.find_leaf.Goals as goal

pub returns-in-loop-slot : goal.returns-in-loop-slot
returns-in-loop-slot c = grind (arith, common_steps)
