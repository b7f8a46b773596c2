-- SPDX-License-Identifier: MIT OR Apache-2.0
use Rattle.std.proofs.Common.{rules}
use Rattle.ffa_memshare.proofs.changed.changed_sender.Goals as goal

pub returns-in-Lend : goal.returns-in-Lend
returns-in-Lend c = search rules
