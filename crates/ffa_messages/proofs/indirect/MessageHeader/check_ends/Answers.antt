-- SPDX-License-Identifier: MIT OR Apache-2.0
use Rattle.std.proofs.Common.{arith, rules}
use Rattle.std.proofs.lemmas.Grind.{common_steps}
use Rattle.ffa_messages.proofs.indirect.MessageHeader.check_ends.Goals as goal

pub returns-clause-refusal : goal.returns-clause-refusal
returns-clause-refusal c = grind (arith, common_steps)

pub returns-clause-room : goal.returns-clause-room
returns-clause-room c = search rules
