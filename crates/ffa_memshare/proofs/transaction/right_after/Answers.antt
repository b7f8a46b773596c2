-- SPDX-License-Identifier: MIT OR Apache-2.0
use Rattle.std.proofs.Common.{rules}
use Rattle.ffa_memshare.proofs.transaction.right_after.Goals as goal

pub returns-in-Share : goal.returns-in-Share
returns-in-Share c = search rules

pub returns-in-Lend : goal.returns-in-Lend
returns-in-Lend c = search rules
