-- SPDX-License-Identifier: MIT OR Apache-2.0
use Rattle.std.proofs.Common.{rules}
use Rattle.play_trace.proofs.descriptor.function_of.Goals as goal

pub returns-in-Lend : goal.returns-in-Lend
returns-in-Lend c = search rules
