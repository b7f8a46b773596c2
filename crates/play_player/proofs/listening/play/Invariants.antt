-- SPDX-License-Identifier: MIT OR Apache-2.0
use Rattle.std.proofs.Common.{◌≡◌, ◌+◌, ◌-◌, ◌^◌, ℕ, List, None, Ok, length}
use Rattle.ffa_playable.specs.Bench.{processors_of}
use Rattle.play_player.specs.Listening.{AreDone}
use Rattle.play_player.proofs.listening.play.Given as goal

abbrev pub invariant-loop-text : goal.invariant-loop-text
invariant-loop-text g l =
    (lines : List (List ℕ)) × AreDone l.fn.player.bench l.player.bench (g.R.Read.remaining l.fn.reader) (g.R.Read.remaining l.reader) lines
    × g.L.Listener.heard l.fn.player.bench lines l.fn.listener l.listener (g.W.Write.contents l.fn.out) (g.W.Write.contents l.out) (Ok None)
    × (l.lines.number ≡ 1 + length lines) × (l.lines.processors ≡ processors_of l.fn.player.bench)

abbrev pub decreases-loop-text : goal.decreases-loop-text
decreases-loop-text g l = 2 ^ 64 - l.lines.number
