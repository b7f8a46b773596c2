-- SPDX-License-Identifier: MIT OR Apache-2.0
use Rattle.std.proofs.Common.{◌≡◌, ◌+◌, ◌-◌, ◌^◌, ℕ, List, length}
use Rattle.ffa_playable.specs.Bench.{processors_of}
use Rattle.play_player.specs.Followed.{Followed}
use Rattle.play_player.specs.Forms.{plain}
use Rattle.play_commands.specs.Counted.{counted, tally_of}
use Rattle.play_commands.proofs.counter.count_lines.Given as goal

-- the lines so far, and what they count
abbrev pub invariant-loop-bytes : goal.invariant-loop-bytes
invariant-loop-bytes g l =
    (lines : List (List ℕ)) × (text : List ℕ)
    × Followed plain l.fn.player.bench l.player.bench (g.R.Read.remaining l.fn.reader) (g.R.Read.remaining l.reader) lines text
    × (l.lines.number ≡ 1 + length lines) × (l.lines.processors ≡ processors_of l.fn.player.bench)
    × (tally_of l.counts ≡ counted l.fn.player.bench lines (tally_of l.fn.counts))

abbrev pub decreases-loop-bytes : goal.decreases-loop-bytes
decreases-loop-bytes g l = 2 ^ 64 - l.lines.number
