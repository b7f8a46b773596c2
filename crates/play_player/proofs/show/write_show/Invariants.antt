-- SPDX-License-Identifier: MIT OR Apache-2.0
use Rattle.std.proofs.Common.{◌≤◌}
use Rattle.play_player.proofs.ShowRuns.{Showing}
use Rattle.play_player.proofs.show.write_show.Given as goal

abbrev pub invariant-loop-last : goal.invariant-loop-last
invariant-loop-last g l = record {
  order : l.first ≤ l.last;
  shown : Showing (g.P.Playable.bench l.fn.machine).state (g.W.Write.contents l.fn.writer) (g.W.Write.contents l.writer) l.first l.last;
}
