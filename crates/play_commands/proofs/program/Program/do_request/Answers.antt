-- SPDX-License-Identifier: MIT OR Apache-2.0
use Rattle.std.proofs.lemmas.Result.{on_ok_weaker}
use Rattle.play_report.proofs.Results.{on_err}
use Rattle.play_commands.specs.Performed.{ran}
use Rattle.play_commands.proofs.Flushed.{done, fails}
use Rattle.play_commands.proofs.program.Program.do_request.Goals as goal

pub returns-in_default : goal.returns-in_default
returns-in_default g c =
    let it = c.args.request.now in
    let left = ran g.R.Read.remaining c.args.files g.W.Write.contents c.args.out.now c.do_command-done.new.out in
    let holds = g.W.Write.contents c.flush-flushed.new.self in
    let kept = c.flush-flushed.ensures.bytes in
    let does = c.do_command-done.ensures.does in
    record {
      done = on_ok_weaker c.do_command-done.result (done left holds kept it) does.done;
      opened = does.opened;
      failed = on_err c.do_command-done.result (fails left holds kept it) does.failed;
      read = does.read;
      quiet = c.do_command-done.ensures.quiet;
    }

pub returns-in_default-2-clause-done : goal.returns-in_default-2-clause-done
returns-in_default-2-clause-done g c =
    let left = ran g.R.Read.remaining c.args.files g.W.Write.contents c.args.out.now c.do_command-done.new.out in
    let holds = g.W.Write.contents c.flush-flushed.new.self in
    on_ok_weaker c.do_command-done.result (done left holds c.flush-flushed.ensures.bytes c.args.request.now) c.do_command-done.ensures.does.done

pub returns-in_default-2-clause-failed : goal.returns-in_default-2-clause-failed
returns-in_default-2-clause-failed g c =
    let left = ran g.R.Read.remaining c.args.files g.W.Write.contents c.args.out.now c.do_command-done.new.out in
    let holds = g.W.Write.contents c.flush-flushed.new.self in
    on_err c.do_command-done.result (fails left holds c.flush-flushed.ensures.bytes c.args.request.now) c.do_command-done.ensures.does.failed
