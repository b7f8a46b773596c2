-- SPDX-License-Identifier: MIT OR Apache-2.0
use Rattle.std.proofs.Common.{rules}
use Rattle.ffa_setup.proofs.partitions.told_info_size.Goals as goal

pub returns-in-Compact : goal.returns-in-Compact
returns-in-Compact c = search rules
