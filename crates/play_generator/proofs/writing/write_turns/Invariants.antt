-- SPDX-License-Identifier: MIT OR Apache-2.0
use Rattle.std.proofs.Common.{◌-◌, ◌≤◌}
use Rattle.play_generator.specs.Traces.{Wrote}
use Rattle.play_generator.proofs.writing.write_turns.Given as goal

-- all lines were written but those that are left
abbrev pub invariant-loop-left : goal.invariant-loop-left
invariant-loop-left g l = Wrote (l.fn.lines - l.left) (g.W.Write.contents l.fn.out) (g.W.Write.contents l.out) × (l.left ≤ l.fn.lines)

abbrev pub decreases-loop-left : goal.decreases-loop-left
decreases-loop-left g l = l.left
