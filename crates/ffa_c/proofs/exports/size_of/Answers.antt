-- SPDX-License-Identifier: MIT OR Apache-2.0
use Rattle.std.proofs.Common.{rules}
use Rattle.ffa_c.proofs.exports.size_of.Goals as goal

pub returns-in-4 : goal.returns-in-4
returns-in-4 c = search rules
