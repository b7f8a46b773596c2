-- SPDX-License-Identifier: MIT OR Apache-2.0
use Rattle.std.proofs.Common.{length}
use Rattle.play_player.proofs.Feeds.{Taking}
use Rattle.play_player.proofs.player.Player.do_lines.Given as goal

abbrev pub invariant-loop-number : goal.invariant-loop-number
invariant-loop-number g l =
    Taking l.fn.self.bench l.self.bench (g.W.Write.contents l.fn.writer) (g.W.Write.contents l.writer) l.fn.number l.number l.fn.begun.items l.fn.bytes l.begun.items l.rest

abbrev pub decreases-loop-number : goal.decreases-loop-number
decreases-loop-number g l = length l.rest
