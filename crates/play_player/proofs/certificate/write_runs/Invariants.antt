-- SPDX-License-Identifier: MIT OR Apache-2.0
use Rattle.std.proofs.Common.{take}
use Rattle.std.specs.Io.KnownBytes.{Appends}
use Rattle.std.specs.List.{flat_map}
use Rattle.play_trace.specs.TraceText.{cert_run_text}
use Rattle.play_player.proofs.certificate.write_runs.Given as goal

-- the runs so far
abbrev pub invariant-loop-run : goal.invariant-loop-run
invariant-loop-run g l =
    Appends (g.W.Write.contents l.fn.writer) (g.W.Write.contents l.writer) (flat_map (cert_run_text (g.P.Playable.bench l.machine).state) (take l.run-index l.runs))
