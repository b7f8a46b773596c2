-- SPDX-License-Identifier: MIT OR Apache-2.0
use Rattle.std.proofs.Common.{rules}
use Rattle.ffa_messages.proofs.checks.is_waiting.Goals as goal

pub returns-in-Waiting : goal.returns-in-Waiting
returns-in-Waiting c = search rules
