-- SPDX-License-Identifier: MIT OR Apache-2.0
use Rattle.std.proofs.Common.{rules}
use Rattle.ffa_pages.proofs.table.PageTable.alike_until.Goals as goal

pub returns-then-ne-clause-alike : goal.returns-then-ne-clause-alike
returns-then-ne-clause-alike g c = search rules
