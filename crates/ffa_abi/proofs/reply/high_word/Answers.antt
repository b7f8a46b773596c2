-- SPDX-License-Identifier: MIT OR Apache-2.0
use Rattle.std.proofs.Common.{rules}
use Rattle.ffa_abi.proofs.reply.high_word.Goals as goal

pub returns : goal.returns
returns c = search rules
