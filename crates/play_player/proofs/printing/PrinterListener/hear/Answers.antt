-- SPDX-License-Identifier: MIT OR Apache-2.0
use Rattle.std.proofs.Common.{◌≡◌, ◌∙◌, ◌++◌, ◌∷◌, [], IfSome, Option, Result, ap, subst}
use Rattle.play_trace.specs.declared.output.PlayError.{PlayError}
use Rattle.std.specs.declared.convert.Infallible.{Infallible}
use Rattle.play_trace.specs.Lines.{meant}
use Rattle.play_trace.specs.TraceText.{after_all}
use Rattle.play_player.specs.Forms.{line_text_in}
use Rattle.play_player.specs.Printed.{PrintsLines}
use Rattle.play_player.proofs.Listens.{prints_less, prints_more, with_fact}
use Rattle.play_player.proofs.printing.PrinterListener.hear.Goals as goal

pub returns-in-Ok : goal.returns-in-Ok
returns-in-Ok g c = λ start lines first began done before.
    let event = c.args.event.now in
    let mid = after_all start lines in
    let made = c.make_text_of.ensures mid done.state done.text done.outcome in
    let own = subst (λ o. IfSome o (λ t. t ≡ line_text_in c.args.self.now.form event.number mid (meant event.line))) c.in_ok-bytes.ensures.whole made in
    let is = own ∙ ap (λ form. line_text_in form event.number mid (meant event.line)) before.1 in
    (prints_more start _ lines event done first.form _ is began _ _ Infallible before.0 c.in-Ok.ensures, before.1)

pub returns-in-Err : goal.returns-in-Err
returns-in-Err g c = λ start lines first began done before.
    let event = c.args.event.now in
    let mid = after_all start lines in
    let made = c.make_text_of.ensures mid done.state done.text done.outcome in
    let own = subst (λ o. IfSome o (λ t. t ≡ line_text_in c.args.self.now.form event.number mid (meant event.line))) c.in_ok-bytes.ensures.whole made in
    let is = own ∙ ap (λ form. line_text_in form event.number mid (meant event.line)) before.1 in
    let prints : Result (Option Infallible) PlayError → Type 0 = PrintsLines {Stop = Infallible} first.form start (lines ++ event.bytes.now ∷ []) began (g.W.Write.contents c.write_text.new.writer) in
    with_fact prints c.in-Err.error (prints_less start _ lines event done first.form _ is began _ _ (Unit {0}) Infallible before.0 c.in-Err.error c.in-Err.ensures) before.1
