-- SPDX-License-Identifier: MIT OR Apache-2.0
use Rattle.std.proofs.Common.{◌≡◌, length}
use Rattle.play_trace.specs.TraceLines.{words_of}
use Rattle.play_player.specs.Patterns.{fit}
use Rattle.play_player.proofs.patterns.words_fit.Given as goal

abbrev pub invariant-loop-more : goal.invariant-loop-more
invariant-loop-more l =
    fit l.numbers l.loose (words_of l.wanted) (words_of l.own) ≡ fit l.numbers l.loose (words_of l.text) (words_of l.line)

abbrev pub decreases-loop-more : goal.decreases-loop-more
decreases-loop-more l = length l.own
