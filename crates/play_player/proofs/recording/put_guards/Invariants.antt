-- SPDX-License-Identifier: MIT OR Apache-2.0
use Rattle.std.proofs.Common.{◌≤◌, ℕ, List, Option, length, map}
use Rattle.play_trace.specs.TraceLines.{joined}
use Rattle.play_reasons.specs.Drafts.{Puts}
use Rattle.play_player.specs.Guards.{lines_in}
use Rattle.play_player.specs.Recorded.{guard_for}
use Rattle.play_player.proofs.recording.put_guards.Given as goal

-- with the guards of the rest put behind it, the guards of all are put behind the text before
abbrev pub invariant-loop-end : goal.invariant-loop-end
invariant-loop-end g l =
    (length l.rest ≤ length l.printed)
    × ((new : Option (List ℕ)) → Puts l.text new (joined (map guard_for (lines_in l.rest))) → Puts l.fn.text new (joined (map guard_for (lines_in l.printed))))

abbrev pub decreases-loop-end : goal.decreases-loop-end
decreases-loop-end g l = length l.rest
