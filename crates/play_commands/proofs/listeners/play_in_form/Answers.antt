-- SPDX-License-Identifier: MIT OR Apache-2.0
use Rattle.std.proofs.Common.{◌≡◌, refl, subst}
use Rattle.std.specs.declared.convert.Infallible.{Infallible}
use Rattle.play_player.specs.Listening.{Heard}
use Rattle.play_player.specs.Printed.{PrintsLines}
use Rattle.play_player.specs.declared.printing.Printer.{Printer}
use Rattle.play_player.proofs.Listens.{prints_none}
use Rattle.play_commands.proofs.Plays.{passed, printed_failed, printed_whole}
use Rattle.play_commands.proofs.listeners.play_in_form.Goals as goal

pub play_trace-requires : goal.play_trace-requires
play_trace-requires g c = (prints_none Infallible c.new-printer.result.form c.args.player.now.bench (g.W.Write.contents c.args.out.now), refl)

pub returns-in-Ok : goal.returns-in-Ok
returns-in-Ok g c =
    let heard : Heard (Printer g.row.A.Denot) Infallible = λ start lines old new held holds result. PrintsLines old.form start lines held holds result × (new.form ≡ old.form) in
    let start = c.args.player.now.bench in
    let streams = passed (g.R.Read.remaining c.args.trace.reader) (g.W.Write.contents c.args.out.now) (g.W.Write.contents c.play_trace.new.out) in
    record {
      played = printed_whole heard c.args.form start streams c.play_trace.new.line.items c.new-printer.result c.play_trace.new.listener c.args.trace.path c.in-Ok.field-0 c.in-Ok.ensures
          (λ lines result said. subst (λ form. PrintsLines {Stop = Infallible} form start lines streams.held streams.holds result) c.new-printer.ensures said.0);
      failed = tt;
    }

pub returns : goal.returns
returns g c =
    let heard : Heard (Printer g.row.A.Denot) Infallible = λ start lines old new held holds result. PrintsLines old.form start lines held holds result × (new.form ≡ old.form) in
    let start = c.args.player.now.bench in
    let streams = passed (g.R.Read.remaining c.args.trace.reader) (g.W.Write.contents c.args.out.now) (g.W.Write.contents c.play_trace.new.out) in
    record {
      played = tt;
      failed = printed_failed heard c.args.form start streams c.play_trace.new.line.items c.new-printer.result c.play_trace.new.listener c.args.trace.path c.in-Err.failure c.in-Err.ensures
          (λ lines result said. subst (λ form. PrintsLines {Stop = Infallible} form start lines streams.held streams.holds result) c.new-printer.ensures said.0);
    }
