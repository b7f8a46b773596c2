-- SPDX-License-Identifier: MIT OR Apache-2.0
use Rattle.std.proofs.Common.{None, subst, sym}
use Rattle.std.specs.Io.Buffered.{reader_remaining}
use Rattle.play_commands.specs.Plays.{IsHeld, PlayFails}
use Rattle.play_report.specs.Failures.{failure_of}
use Rattle.play_report.specs.declared.failure.Failure.TheVariants.{Read}
use Rattle.play_commands.specs.declared.task.Task.TheVariants.{Session}
use Rattle.play_commands.proofs.Plays.{held_failed, held_whole, passed}
use Rattle.play_commands.proofs.listeners.play_session.Goals as goal

pub returns-in-Ok : goal.returns-in-Ok
returns-in-Ok g c =
    let held = g.W.Write.contents c.args.out.now in
    let holds = g.W.Write.contents c.play_session.new.writer in
    let whole = held_whole c.in-Ok.field-0 c.args.form c.args.player.now.bench c.play_session.new.player.bench held holds _ (reader_remaining g.R.Read.remaining c.play_session.new.reader) c.in-Ok.ensures.done in
    record {
      played = subst (λ had. IsHeld c.args.form c.args.player.now.bench (passed had held holds)) c.in_ok-reader.ensures.unread whole;
      failed = tt;
    }

pub returns : goal.returns
returns g c =
    let start = c.args.player.now.bench in
    let held = g.W.Write.contents c.args.out.now in
    let holds = g.W.Write.contents c.play_session.new.writer in
    let task = Session c.args.form in
    let failed = held_failed c.args.form start c.play_session.new.player.bench held holds _ (reader_remaining g.R.Read.remaining c.play_session.new.reader) c.args.trace.path None c.in-Err.error c.in-Err.ensures.done in
    let from_reader = subst (λ had. PlayFails task c.args.trace.path start (passed had held holds) (failure_of (Read c.args.trace.path) None c.in-Err.error)) c.in_ok-reader.ensures.unread failed in
    record { played = tt; failed = subst (PlayFails task c.args.trace.path start (passed (g.R.Read.remaining c.args.trace.reader) held holds)) (sym c.of_play.ensures) from_reader }
