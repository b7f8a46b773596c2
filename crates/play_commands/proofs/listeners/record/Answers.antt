-- SPDX-License-Identifier: MIT OR Apache-2.0
use Rattle.std.specs.declared.convert.Infallible.{Infallible}
use Rattle.play_player.specs.Listening.{Heard}
use Rattle.play_player.specs.Recorded.{RecordsLines}
use Rattle.play_player.specs.declared.recording.Recorder.{Recorder}
use Rattle.play_player.proofs.Replaying.{records_none}
use Rattle.play_commands.proofs.Plays.{passed, recorded_failed, recorded_whole}
use Rattle.play_commands.proofs.listeners.record.Goals as goal

pub play_trace-requires : goal.play_trace-requires
play_trace-requires g c = records_none Infallible c.args.player.now.bench (g.W.Write.contents c.args.out.now)

pub returns-in-Ok : goal.returns-in-Ok
returns-in-Ok g c =
    let heard : Heard (Recorder g.row.A.Denot) Infallible = λ start lines old new held holds result. RecordsLines start lines held holds result in
    let streams = passed (g.R.Read.remaining c.args.trace.reader) (g.W.Write.contents c.args.out.now) (g.W.Write.contents c.play_trace.new.out) in
    record {
      played = recorded_whole heard c.args.player.now.bench streams c.play_trace.new.line.items c.new-recorder.result c.play_trace.new.listener c.args.trace.path c.in-Ok.field-0 c.in-Ok.ensures (λ lines result said. said);
      failed = tt;
    }

pub returns : goal.returns
returns g c =
    let heard : Heard (Recorder g.row.A.Denot) Infallible = λ start lines old new held holds result. RecordsLines start lines held holds result in
    let streams = passed (g.R.Read.remaining c.args.trace.reader) (g.W.Write.contents c.args.out.now) (g.W.Write.contents c.play_trace.new.out) in
    record {
      played = tt;
      failed = recorded_failed heard c.args.player.now.bench streams c.play_trace.new.line.items c.new-recorder.result c.play_trace.new.listener c.args.trace.path c.in-Err.failure c.in-Err.ensures (λ lines result said. said);
    }
