-- SPDX-License-Identifier: MIT OR Apache-2.0
use Rattle.std.proofs.Common.{rules}
use Rattle.ffa_setup.proofs.partitions.push_info.Goals as goal

pub returns-in-Compact-clause-bytes : goal.returns-in-Compact-clause-bytes
returns-in-Compact-clause-bytes c = search rules
