-- SPDX-License-Identifier: MIT OR Apache-2.0
use Rattle.std.proofs.Common.{Err, subst}
use Rattle.std.specs.Io.KnownBytes.{Appends}
use Rattle.std.specs.declared.convert.Infallible.{Infallible}
use Rattle.play_trace.specs.Output.{Writes}
use Rattle.play_reasons.proofs.Together.{whole}
use Rattle.play_player.proofs.Replaying.{records_less, records_more}
use Rattle.play_player.proofs.recording.RecorderListener.hear.Goals as goal

pub returns-in-Ok : goal.returns-in-Ok
returns-in-Ok g c = λ start lines first began done before.
    let own = whole _ _ _ _ c.clear.ensures c.in_ok-bytes.ensures.whole c.put_recorded.ensures in
    records_more start _ lines c.args.event.now done Infallible began _ _ before (subst (Appends (g.W.Write.contents c.args.out.now) (g.W.Write.contents c.write_text.new.writer)) own c.in-Ok.ensures)

pub returns-in-Err : goal.returns-in-Err
returns-in-Err g c = λ start lines first began done before.
    let own = whole _ _ _ _ c.clear.ensures c.in_ok-bytes.ensures.whole c.put_recorded.ensures in
    let fails = subst (λ said. Writes {X = Unit {0}} (g.W.Write.contents c.args.out.now) (g.W.Write.contents c.write_text.new.writer) said (Err c.in-Err.error)) own c.in-Err.ensures in
    records_less start _ lines c.args.event.now done (Unit {0}) Infallible began _ _ before c.in-Err.error fails
