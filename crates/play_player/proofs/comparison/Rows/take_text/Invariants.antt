-- SPDX-License-Identifier: MIT OR Apache-2.0
use Rattle.std.proofs.Common.{◌≡◌, ◌+◌, ℕ, true, List, ◌++◌, length}
use Rattle.std.specs.Io.KnownBytes.{Consumes}
use Rattle.std.specs.List.{list_all}
use Rattle.play_trace.specs.TraceLines.{has_no_feed, joined}
use Rattle.play_player.proofs.comparison.Rows.take_text.Given as goal

abbrev pub invariant-loop-rest : goal.invariant-loop-rest
invariant-loop-rest g l =
    (done : List (List ℕ)) × (l.fn.text ≡ joined done ++ l.rest) × (list_all has_no_feed done ≡ true)
    × Consumes (g.R.Read.remaining l.fn.self.reader) (g.R.Read.remaining l.self.reader) (joined done) × (l.self.read ≡ l.fn.self.read + length done)

abbrev pub decreases-loop-rest : goal.decreases-loop-rest
decreases-loop-rest g l = length l.rest
