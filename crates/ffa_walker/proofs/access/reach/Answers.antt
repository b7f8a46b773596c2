-- SPDX-License-Identifier: MIT OR Apache-2.0
use Rattle.std.proofs.Common.{arith}
use Rattle.ffa_walker.proofs.Offsets.{same_alignment}
use Rattle.ffa_walker.proofs.access.reach.Goals as goal

pub returns-clause-aligned : goal.returns-clause-aligned
returns-clause-aligned g c =
    same_alignment c.args.size c.in_ok-leaf.leaf.phys c.args.address (grind arith) (grind arith)
