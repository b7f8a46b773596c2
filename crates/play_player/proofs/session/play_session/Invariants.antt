-- SPDX-License-Identifier: MIT OR Apache-2.0
use Rattle.std.proofs.Common.{◌≡◌, ◌+◌, ◌-◌, ◌^◌, ℕ, true, List, length}
use Rattle.std.specs.Io.KnownBytes.{Appends, Consumes}
use Rattle.std.specs.List.{list_all}
use Rattle.ffa_playable.specs.Bench.{processors_of}
use Rattle.play_trace.specs.TraceLines.{joined}
use Rattle.play_trace.specs.TraceText.{after_all}
use Rattle.play_player.specs.Forms.{text_in}
use Rattle.play_player.specs.Sessions.{ToldOfAll, is_heard}
use Rattle.play_player.proofs.session.play_session.Given as goal

abbrev pub invariant-loop-texts : goal.invariant-loop-texts
invariant-loop-texts g l =
    (lines : List (List ℕ)) × (printed : List ℕ) × (list_all is_heard lines ≡ true)
    × Consumes (g.R.Read.remaining l.fn.reader) (g.R.Read.remaining l.reader) (joined lines)
    × (l.player.bench ≡ after_all l.fn.player.bench lines) × (printed ≡ text_in l.fn.form 1 l.fn.player.bench lines)
    × Appends (g.W.Write.contents l.fn.writer) (g.W.Write.contents l.writer) printed × (l.number ≡ 1 + length lines)
    × (said : List ℕ) × ToldOfAll (processors_of l.fn.player.bench) 1 lines said × Appends (g.E.Write.contents l.fn.told) (g.E.Write.contents l.told) said

abbrev pub decreases-loop-texts : goal.decreases-loop-texts
decreases-loop-texts g l = 2 ^ 64 - l.number
