-- SPDX-License-Identifier: MIT OR Apache-2.0
use Rattle.std.proofs.Common.{◌≡◌, ◌++◌, ◌∷◌, [], None, Some, ap, ◌∙◌, subst}
use Rattle.ffa_playable.specs.Bench.{processors_of}
use Rattle.play_trace.specs.Lines.{meant}
use Rattle.play_trace.specs.TraceLines.{feed, line_in}
use Rattle.play_player.specs.SessionSteps.{TellsOrLoses}
use Rattle.play_player.proofs.BadLines.{bad_told, good_told}
use Rattle.play_player.proofs.Conversing.{answers_bad, answers_good}
use Rattle.play_player.proofs.session.answer_line.Goals as goal

pub returns-in-Some-clause-done : goal.returns-in-Some-clause-done
returns-in-Some-clause-done g c =
    answers_good c.args.form c.args.player.now.bench c.print_line.new.player.bench c.args.number c.args.bytes.now.items (meant c.in-Some.line) (g.W.Write.contents c.args.writer.now) (g.W.Write.contents c.print_line.new.writer)
    (subst (λ p. Some (meant c.in-Some.line) ≡ line_in p c.args.bytes.now.items) c.processors-processors.ensures (c.in-Some.ensures ∙ ap (line_in c.processors-processors.result) c.deref.ensures.value)) c.print_line.result c.print_line.ensures

pub returns-in-Some-clause-told : goal.returns-in-Some-clause-told
returns-in-Some-clause-told g c =
    good_told (processors_of c.args.player.now.bench) c.args.bytes.now.items c.args.number (g.E.Write.contents c.args.told.now) (meant c.in-Some.line) (subst (λ p. Some (meant c.in-Some.line) ≡ line_in p c.args.bytes.now.items) c.processors-processors.ensures (c.in-Some.ensures ∙ ap (line_in c.processors-processors.result) c.deref.ensures.value)) c.print_line.result

pub returns-in-None-clause-done : goal.returns-in-None-clause-done
returns-in-None-clause-done g c =
    answers_bad c.args.form c.args.player.now.bench c.args.number c.args.bytes.now.items (g.W.Write.contents c.args.writer.now) (subst (λ p. None ≡ line_in p c.args.bytes.now.items) c.processors-processors.ensures (c.in-None.ensures ∙ ap (line_in c.processors-processors.result) c.deref.ensures.value))
    (g.E.Write.contents c.args.told.now) (g.E.Write.contents c.refuse_line.new.told) c.refuse_line.result (subst (λ p. TellsOrLoses p c.args.number (c.args.bytes.now.items ++ feed ∷ []) (g.E.Write.contents c.args.told.now) (g.E.Write.contents c.refuse_line.new.told) c.refuse_line.result) c.processors-processors.ensures c.refuse_line.ensures)

pub returns-in-None-clause-told : goal.returns-in-None-clause-told
returns-in-None-clause-told g c =
    bad_told (processors_of c.args.player.now.bench) c.args.bytes.now.items c.args.number (g.E.Write.contents c.args.told.now) (g.E.Write.contents c.refuse_line.new.told) (subst (λ p. None ≡ line_in p c.args.bytes.now.items) c.processors-processors.ensures (c.in-None.ensures ∙ ap (line_in c.processors-processors.result) c.deref.ensures.value)) c.refuse_line.result
    (subst (λ p. TellsOrLoses p c.args.number (c.args.bytes.now.items ++ feed ∷ []) (g.E.Write.contents c.args.told.now) (g.E.Write.contents c.refuse_line.new.told) c.refuse_line.result) c.processors-processors.ensures c.refuse_line.ensures)
