-- SPDX-License-Identifier: MIT OR Apache-2.0
use Rattle.std.proofs.Common.{rules}
use Rattle.ffa_rxtx.proofs.checks.is_usable.Goals as goal

pub returns-then-is_alone : goal.returns-then-is_alone
returns-then-is_alone g c = search rules

pub returns-else-is_alone : goal.returns-else-is_alone
returns-else-is_alone g c = search rules
