-- SPDX-License-Identifier: MIT OR Apache-2.0
use Rattle.play_player.proofs.Plays.{Playing}
use Rattle.play_player.proofs.player.Player.play.Given as goal

abbrev pub invariant-loop : goal.invariant-loop
invariant-loop g l =
    Playing l.fn.self.bench l.self.bench (g.W.Write.contents l.fn.writer) (g.W.Write.contents l.writer) (g.R.Read.remaining l.fn.reader) (g.R.Read.remaining l.reader) l.begun.number l.begun.bytes.items
