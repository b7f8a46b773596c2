-- SPDX-License-Identifier: MIT OR Apache-2.0
use Rattle.std.proofs.Common.{rules}
use Rattle.play_trace.proofs.retrieve.permissions_of.Goals as goal

pub returns-then-exec : goal.returns-then-exec
returns-then-exec c = search rules
