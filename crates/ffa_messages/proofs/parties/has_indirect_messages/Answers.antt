-- SPDX-License-Identifier: MIT OR Apache-2.0
use Rattle.std.proofs.Common.{arith}
use Rattle.ffa_messages.proofs.Bits.{contains_third}
use Rattle.ffa_messages.proofs.parties.has_indirect_messages.Goals as goal

pub returns : goal.returns
returns c = grind (arith, contains_third)
