-- SPDX-License-Identifier: MIT OR Apache-2.0
use Rattle.std.proofs.Common.{Ok, ap, ◌∙◌, subst, arith}
use Rattle.play_player.specs.Sessions.{asks_end}
use Rattle.play_player.specs.SessionSteps.{TellsOrLoses}
use Rattle.play_player.proofs.BadLines.{asked_told, heard_or_asked, line_read, rest_told}
use Rattle.play_player.proofs.session.hear_line.Goals as goal

pub returns-in_ok-tell_or_lose-in-Err-BadLine-clause-told : goal.returns-in_ok-tell_or_lose-in-Err-BadLine-clause-told
returns-in_ok-tell_or_lose-in-Err-BadLine-clause-told g c =
    let held = g.E.Write.contents c.args.told.now in
    let holds = g.E.Write.contents c.tell_or_lose.new.told in
    let told = subst (λ l. TellsOrLoses {X = Unit {0}} c.args.processors c.args.number l held holds (Ok c.in_ok-tell_or_lose-in-Err-BadLine.field-0)) c.deref.ensures.value c.in_ok-tell_or_lose-in-Err-BadLine.ensures in
    rest_told c.args.processors (g.R.Read.remaining c.args.reader.now) (g.R.Read.remaining c.next_line.new.reader) c.next_line.new.line.items c.args.number c.in-Err-BadLine.field-0-0 held holds (rw c.in-Err-BadLine.field-0-is at c.in-Err-BadLine.ensures) told

pub returns-in-Ok-true-clause-heard : goal.returns-in-Ok-true-clause-heard
returns-in-Ok-true-clause-heard g c =
    heard_or_asked (g.R.Read.remaining c.args.reader.now) (g.R.Read.remaining c.next_line.new.reader) c.next_line.new.line.items c.args.number c.asks_end.result (c.asks_end.ensures ∙ ap asks_end c.deref-in-Ok-true.ensures.value)
    (omega (arith, c.ranges.number.fits, c.if-number-eq18446744073709551615.false)) (line_read (g.R.Read.remaining c.args.reader.now) (g.R.Read.remaining c.next_line.new.reader) c.next_line.new.line.items c.args.number c.in-Ok-true.field-0 c.in-Ok-true.field-0-test c.in-Ok-true.ensures)

pub returns-in-Ok-true-clause-told : goal.returns-in-Ok-true-clause-told
returns-in-Ok-true-clause-told g c =
    asked_told c.args.processors (g.R.Read.remaining c.args.reader.now) (g.R.Read.remaining c.next_line.new.reader) c.next_line.new.line.items c.args.number (g.E.Write.contents c.args.told.now) c.asks_end.result
    (c.asks_end.ensures ∙ ap asks_end c.deref-in-Ok-true.ensures.value) (line_read (g.R.Read.remaining c.args.reader.now) (g.R.Read.remaining c.next_line.new.reader) c.next_line.new.line.items c.args.number c.in-Ok-true.field-0 c.in-Ok-true.field-0-test c.in-Ok-true.ensures)
