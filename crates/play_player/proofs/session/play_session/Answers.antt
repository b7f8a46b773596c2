-- SPDX-License-Identifier: MIT OR Apache-2.0
use Rattle.std.proofs.Common.{◌++◌, ◌∷◌, [], Ok, subst, arith, length-append, refl}
use Rattle.std.proofs.KnownBytes.{Appends-nil, Appends-trans, Consumes-nil, Keeps-trans}
use Rattle.std.proofs.lemmas.Result.{err_from_is_err_and}
use Rattle.ffa_playable.specs.Bench.{processors_of}
use Rattle.play_player.specs.Forms.{text_of_in}
use Rattle.play_player.specs.SessionSteps.{AnswersTelling, HearsTelling}
use Rattle.play_player.proofs.Behind.{processors-behind}
use Rattle.play_player.proofs.BadLines.{cut_told, heard_told, over_told, told_more}
use Rattle.play_player.proofs.Conversing.{conversed, heard, more, over, unanswered, unheard}
use Rattle.play_player.proofs.session.play_session.Goals as goal

pub loop-texts-init : goal.loop-texts-init
loop-texts-init g c = ([], [], refl, Consumes-nil _, refl, refl, Appends-nil _, omega arith, [], refl, Appends-nil _)

pub returns-in_err-hear_line-clause-done : goal.returns-in_err-hear_line-clause-done
returns-in_err-hear_line-clause-done g c =
    let i = c.loop-texts.invariant in
    let p = err_from_is_err_and c.from_residual.result c.from_residual.ensures.1 in
    rw (p.1, p.2)
    (unheard c.args.form c.args.player.now.bench c.loop-texts.player.bench (g.R.Read.remaining c.args.reader.now) (g.R.Read.remaining c.loop-texts.reader) i.0 i.1 i.2 i.3 i.4 i.5 c.in_err-hear_line.field-0.0
    (g.R.Read.remaining c.hear_line.new.reader) c.hear_line.new.bytes.items c.loop-texts.number (g.W.Write.contents c.args.writer.now) (g.W.Write.contents c.loop-texts.writer) i.6 c.in_err-hear_line.ensures.heard)

pub returns-in_err-answer_line-clause-done : goal.returns-in_err-answer_line-clause-done
returns-in_err-answer_line-clause-done g c =
    let i = c.loop-texts.invariant in
    let has = g.R.Read.remaining c.loop-texts.reader in
    let then = g.R.Read.remaining c.hear_line.new.reader in
    let line = c.hear_line.new.bytes.items in
    let one = heard has then line c.loop-texts.number c.in_ok-hear_line.field-0 c.if-branch.true c.in_ok-hear_line.ensures.heard in
    let p = err_from_is_err_and c.from_residual-in_err-answer_line.result c.from_residual-in_err-answer_line.ensures.1 in
    rw (p.1, p.2)
    (unanswered c.args.form c.args.player.now.bench c.loop-texts.player.bench (g.R.Read.remaining c.args.reader.now) has i.0 i.1 i.2 i.3 i.4 i.5 c.answer_line.new.player.bench then line c.loop-texts.number i.7 one.0 one.1
    c.in_err-answer_line.field-0.0 (g.W.Write.contents c.args.writer.now) (g.W.Write.contents c.loop-texts.writer) (g.W.Write.contents c.answer_line.new.writer) i.6 c.in_err-answer_line.ensures.done)

pub returns-in_err-hear_line-clause-told : goal.returns-in_err-hear_line-clause-told
returns-in_err-hear_line-clause-told g c =
    let i = c.loop-texts.invariant in
    let p = err_from_is_err_and c.from_residual.result c.from_residual.ensures.1 in
    rw (p.1, p.2)
    (cut_told (processors_of c.args.player.now.bench) (g.R.Read.remaining c.args.reader.now) (g.R.Read.remaining c.loop-texts.reader) i.0 i.2 i.3 c.loop-texts.number i.7 (g.E.Write.contents c.args.told.now) (g.E.Write.contents c.loop-texts.told) i.8 i.9 i.10
    c.in_err-hear_line.field-0.0 (g.E.Write.contents c.hear_line.new.told) c.in_err-hear_line.ensures.told)

pub returns-in_err-answer_line-clause-told : goal.returns-in_err-answer_line-clause-told
returns-in_err-answer_line-clause-told g c =
    let i = c.loop-texts.invariant in
    let has = g.R.Read.remaining c.loop-texts.reader in
    let mid = g.E.Write.contents c.loop-texts.told in
    let heard = g.E.Write.contents c.hear_line.new.told in
    let holds = g.E.Write.contents c.answer_line.new.told in
    let told = subst (λ p. HearsTelling p has c.loop-texts.number mid heard (Ok c.in_ok-hear_line.field-0)) c.processors-processors.ensures c.in_ok-hear_line.ensures.told in
    let silent = heard_told (processors_of c.args.player.now.bench) has c.loop-texts.number mid heard c.in_ok-hear_line.field-0 c.if-branch.true told in
    let p = err_from_is_err_and c.from_residual-in_err-answer_line.result c.from_residual-in_err-answer_line.ensures.1 in
    rw (p.1, p.2)
    (cut_told (processors_of c.args.player.now.bench) (g.R.Read.remaining c.args.reader.now) has i.0 i.2 i.3 c.loop-texts.number i.7 (g.E.Write.contents c.args.told.now) mid i.8 i.9 i.10 c.in_err-answer_line.field-0.0 holds
    (Keeps-trans mid heard holds silent c.in_err-answer_line.ensures.told))

pub returns-clause-told : goal.returns-clause-told
returns-clause-told g c =
    let i = c.loop-texts.invariant in
    let told = subst (λ p. HearsTelling p (g.R.Read.remaining c.loop-texts.reader) c.loop-texts.number (g.E.Write.contents c.loop-texts.told) (g.E.Write.contents c.hear_line.new.told) (Ok c.in_ok-hear_line.field-0))
    c.processors-processors.ensures c.in_ok-hear_line.ensures.told in
    over_told (processors_of c.args.player.now.bench) (g.R.Read.remaining c.args.reader.now) (g.R.Read.remaining c.loop-texts.reader) i.0 i.2 i.3 c.loop-texts.number i.7 (g.E.Write.contents c.args.told.now) (g.E.Write.contents c.loop-texts.told) i.8 i.9 i.10
    (g.E.Write.contents c.hear_line.new.told) c.in_ok-hear_line.field-0 c.if-branch.false told

pub loop-texts-preserved : goal.loop-texts-preserved
loop-texts-preserved g c =
    let i = c.loop-texts.invariant in
    let has = g.R.Read.remaining c.loop-texts.reader in
    let then = g.R.Read.remaining c.hear_line.new.reader in
    let line = c.hear_line.new.bytes.items in
    let one = heard has then line c.loop-texts.number c.in_ok-hear_line.field-0 c.if-branch.true c.in_ok-hear_line.ensures.heard in
    let made = c.in_ok-answer_line.ensures.done in
    let mid = g.E.Write.contents c.loop-texts.told in
    let before = g.E.Write.contents c.hear_line.new.told in
    let holds = g.E.Write.contents c.answer_line.new.told in
    let hears = subst (λ p. HearsTelling p has c.loop-texts.number mid before (Ok c.in_ok-hear_line.field-0)) c.processors-processors.ensures c.in_ok-hear_line.ensures.told in
    let silent = heard_told (processors_of c.args.player.now.bench) has c.loop-texts.number mid before c.in_ok-hear_line.field-0 c.if-branch.true hears in
    let answers = subst (λ p. AnswersTelling {X = Unit {0}} p line c.loop-texts.number before holds (Ok c.in_ok-answer_line.field-0)) (processors-behind c.args.player.now.bench c.loop-texts.player.bench i.0 i.4)
    c.in_ok-answer_line.ensures.told in
    let told = told_more (processors_of c.args.player.now.bench) (g.R.Read.remaining c.args.reader.now) has i.0 i.2 i.3 c.loop-texts.number i.7 (g.E.Write.contents c.args.told.now) (g.E.Write.contents c.loop-texts.told) i.8 i.9 i.10 line
    before holds silent answers in
    let next = more c.args.form c.args.player.now.bench c.loop-texts.player.bench (g.R.Read.remaining c.args.reader.now) has i.0 i.1 i.2 i.3 i.4 i.5 c.answer_line.new.player.bench then line c.loop-texts.number i.7 one.0 one.1 made.0 in (
      i.0 ++ line ∷ [],
      i.1 ++ text_of_in c.args.form c.loop-texts.number c.loop-texts.player.bench line,
      next.0,
      next.1,
      next.2,
      next.3,
      Appends-trans _ _ _ _ _ i.6 made.1,
      omega (arith, i.7, length-append i.0 (line ∷ [])),
      told.0,
      told.1,
      told.2,
    )

pub returns-clause-done : goal.returns-clause-done
returns-clause-done g c =
    let i = c.loop-texts.invariant in
    let has = g.R.Read.remaining c.loop-texts.reader in (
      has,
      i.0,
      i.1,
      conversed c.args.form c.args.player.now.bench c.loop-texts.player.bench (g.R.Read.remaining c.args.reader.now) has i.0 i.1 i.2 i.3 i.4 i.5,
      over has (g.R.Read.remaining c.hear_line.new.reader) c.hear_line.new.bytes.items c.loop-texts.number c.in_ok-hear_line.field-0 c.if-branch.false c.in_ok-hear_line.ensures.heard,
      i.6,
    )
