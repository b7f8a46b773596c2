-- SPDX-License-Identifier: MIT OR Apache-2.0
use Rattle.std.proofs.Common.{◌≡◌, ◌∙◌, ◌++◌, ◌∷◌, [], IfSome, None, ap, subst}
use Rattle.play_trace.specs.Lines.{meant}
use Rattle.play_trace.specs.TraceText.{after_all}
use Rattle.play_player.specs.Asking.{IsChecked}
use Rattle.play_player.specs.Forms.{line_text_in}
use Rattle.play_player.specs.declared.guards.Breach.{Breach}
use Rattle.play_player.proofs.Checks.{checks_less, counts_more, printed_after, stops_at, strict_more, unasked_after}
use Rattle.play_player.proofs.Listens.{prints_less, prints_more}
use Rattle.play_player.proofs.checking.GuardCheckerListener.hear.Goals as goal

pub returns-in-Some : goal.returns-in-Some
returns-in-Some g c = λ start lines first began done before.
    let checked = subst (IsChecked c.args.player.now.bench c.args.event.now c.args.self.now c.check.new.self) c.in-Some.is c.in_ok-breach.ensures.checked in
    stops_at start c.args.player.now.bench lines c.args.event.now done first c.args.self.now c.check.new.self began (g.W.Write.contents c.args.out.now) before c.in-Some.breach checked c.in_ok-breach.ensures.near

pub returns-in-Ok : goal.returns-in-Ok
returns-in-Ok g c = λ start lines first began done before.
    let event = c.args.event.now in
    let now = c.args.player.now.bench in
    let old = c.args.self.now in
    let new = c.check.new.self in
    let mid = after_all start lines in
    let held = g.W.Write.contents c.args.out.now in
    let checked = subst (IsChecked now event old new) c.in_default.is c.in_ok-breach.ensures.checked in
    let made = c.make_text_of.ensures mid done.state done.text done.outcome in
    let own = subst (λ o. IfSome o (λ t. t ≡ line_text_in new.form event.number mid (meant event.line))) c.in_ok-bytes.ensures.whole made in
    let form = c.check.ensures.form ∙ before.form in
    let is = own ∙ ap (λ f. line_text_in f event.number mid (meant event.line)) form in
    record {
      form = form;
      goes = c.check.ensures.goes ∙ before.goes;
      counts = counts_more start now lines event done first old new began held before None checked c.in_ok-breach.ensures.near;
      strict = strict_more start now lines event done first old new began held before checked;
      written = prints_more start _ lines event done first.form _ is began _ _ Breach before.written c.in-Ok.ensures;
      unasked = unasked_after start now lines event done first old new began held before c.take.new.self.came c.take.new.self.text.items c.in_ok-breach.ensures.left c.check.ensures.came c.in_ok-take.ensures.text c.in_ok-take.ensures.came;
      printed = printed_after start now lines event done first old new began held before c.take.new.self.printed c.check.ensures.printed c.in_ok-take.ensures.printed;
    }

pub returns-in-Err : goal.returns-in-Err
returns-in-Err g c = λ start lines first began done before.
    let event = c.args.event.now in
    let now = c.args.player.now.bench in
    let old = c.args.self.now in
    let new = c.check.new.self in
    let mid = after_all start lines in
    let held = g.W.Write.contents c.args.out.now in
    let checked = subst (IsChecked now event old new) c.in_default.is c.in_ok-breach.ensures.checked in
    let made = c.make_text_of.ensures mid done.state done.text done.outcome in
    let own = subst (λ o. IfSome o (λ t. t ≡ line_text_in new.form event.number mid (meant event.line))) c.in_ok-bytes.ensures.whole made in
    let is = own ∙ ap (λ f. line_text_in f event.number mid (meant event.line)) (c.check.ensures.form ∙ before.form) in
    let less = prints_less start _ lines event done first.form _ is began _ _ (Unit {0}) Breach before.written c.in-Err.error c.in-Err.ensures in
    checks_less start (lines ++ event.bytes.now ∷ []) first new began _ c.in-Err.error less (counts_more start now lines event done first old new began held before None checked c.in_ok-breach.ensures.near) (strict_more start now lines event done first old new began held before checked)
