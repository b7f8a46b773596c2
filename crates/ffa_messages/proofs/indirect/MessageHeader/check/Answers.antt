-- SPDX-License-Identifier: MIT OR Apache-2.0
use Rattle.std.proofs.Common.{arith}
use Rattle.std.proofs.lemmas.Grind.{common_steps}
use Rattle.ffa_messages.proofs.indirect.MessageHeader.check.Goals as goal

pub returns-then-not-is_among-clause-refusal : goal.returns-then-not-is_among-clause-refusal
returns-then-not-is_among-clause-refusal c = grind (arith, common_steps)

pub returns-then-eq-clause-refusal : goal.returns-then-eq-clause-refusal
returns-then-eq-clause-refusal c = grind (arith, common_steps)

pub returns-then-self-header_size-clause-refusal : goal.returns-then-self-header_size-clause-refusal
returns-then-self-header_size-clause-refusal c = grind (arith, common_steps)

pub returns-then-self-eq0-clause-refusal : goal.returns-then-self-eq0-clause-refusal
returns-then-self-eq0-clause-refusal c = grind (arith, common_steps)

pub returns-then-end-room-clause-refusal : goal.returns-then-end-room-clause-refusal
returns-then-end-room-clause-refusal c = grind (arith, common_steps)

pub returns-clause-refusal : goal.returns-clause-refusal
returns-clause-refusal c = grind (arith, common_steps)
