-- SPDX-License-Identifier: MIT OR Apache-2.0
use Rattle.std.proofs.Common.{◌-◌, ◌≤◌, map, take}
use Rattle.play_generator.specs.Turned.{GrowsByLines, meant}
use Rattle.play_generator.proofs.entries.put_entries.Given as goal

-- the lines of the first entries were put
abbrev pub invariant-loop-count : goal.invariant-loop-count
invariant-loop-count g l = GrowsByLines (map meant (take l.count l.fn.entries)) l.fn.text.items l.text.items × (l.count ≤ l.most)

abbrev pub decreases-loop-count : goal.decreases-loop-count
decreases-loop-count g l = l.most - l.count
