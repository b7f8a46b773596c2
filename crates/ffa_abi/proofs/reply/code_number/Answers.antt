-- SPDX-License-Identifier: MIT OR Apache-2.0
use Rattle.std.proofs.Common.{rules}
use Rattle.ffa_abi.proofs.reply.code_number.Goals as goal

pub returns-in-Busy : goal.returns-in-Busy
returns-in-Busy c = search rules
