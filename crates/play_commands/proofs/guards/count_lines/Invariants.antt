-- SPDX-License-Identifier: MIT OR Apache-2.0
use Rattle.std.proofs.Common.{◌-◌, ◌^◌}
use Rattle.play_commands.proofs.Counts.{Counted}
use Rattle.play_commands.proofs.guards.count_lines.Given as goal

abbrev pub invariant-loop-line : goal.invariant-loop-line
invariant-loop-line g l = Counted (g.R.Read.remaining l.fn.reader) (g.R.Read.remaining l.reader) l.number l.guards

abbrev pub decreases-loop-line : goal.decreases-loop-line
decreases-loop-line g l = 2 ^ 64 - l.number
