-- SPDX-License-Identifier: MIT OR Apache-2.0
use Rattle.std.proofs.Common.{◌≡◌, ◌∙◌, ◌++◌, ◌∷◌, ◌+◌, [], IfSome, Some, ap, arith, length, length-append, refl, subst}
use Rattle.std.proofs.Math.Nat.{min-eq_left}
use Rattle.play_trace.specs.Lines.{meant}
use Rattle.play_trace.specs.TraceText.{after_all}
use Rattle.play_reasons.specs.Reasons.{reason_if}
use Rattle.play_player.specs.Compared.{unexplained}
use Rattle.play_player.specs.Forms.{line_text_in}
use Rattle.play_player.proofs.Compares.{line_alike, line_differs, line_unread}
use Rattle.play_player.proofs.comparison.ComparerListener.hear.Goals as goal

pub returns-in-Ok-None : goal.returns-in-Ok-None
returns-in-Ok-None g c = λ start lines first began done before.
    let event = c.args.event.now in
    let mid = after_all start lines in
    let self = c.args.self.now in
    let made = c.make_text_of.ensures mid done.state done.text done.outcome in
    let text = subst (λ o. IfSome o (λ t. t ≡ line_text_in (unexplained self.form) event.number mid (meant event.line))) c.in_ok-bytes.ensures.whole made in
    let is = text ∙ ap (λ form. line_text_in (unexplained form) event.number mid (meant event.line)) before.1 in
    let wants = g.R.Read.remaining first.rows.reader in
    let unread = g.R.Read.remaining self.rows.reader in
    let has = g.R.Read.remaining c.take_text.new.self.reader in
    let next : c.saturating_add-self.result ≡ 1 + length (lines ++ event.bytes.now ∷ []) = omega (arith, c.saturating_add-self.ensures, min-eq_left done.fits, done.number, length-append lines (event.bytes.now ∷ [])) in
    (line_alike first.form start _ lines event done wants unread has first.rows.read self.rows.read c.take_text.new.self.read before.0 _ is (rw c.in-Ok-None.field-0-is at c.in-Ok-None.ensures), before.1, next, before.3)

pub returns-in-Ok-Some : goal.returns-in-Ok-Some
returns-in-Ok-Some g c = λ start lines first began done before.
    let event = c.args.event.now in
    let mid = after_all start lines in
    let self = c.args.self.now in
    let made = c.make_text_of.ensures mid done.state done.text done.outcome in
    let text = subst (λ o. IfSome o (λ t. t ≡ line_text_in (unexplained self.form) event.number mid (meant event.line))) c.in_ok-bytes.ensures.whole made in
    let is = text ∙ ap (λ form. line_text_in (unexplained form) event.number mid (meant event.line)) before.1 in
    let wants = g.R.Read.remaining first.rows.reader in
    let unread = g.R.Read.remaining self.rows.reader in
    let has = g.R.Read.remaining c.take_text.new.self.reader in
    let next : c.saturating_add-self.result ≡ 1 + length (lines ++ event.bytes.now ∷ []) = omega (arith, c.saturating_add-self.ensures, min-eq_left done.fits, done.number, length-append lines (event.bytes.now ∷ [])) in
    let stops = rw c.in-Ok-Some.field-0-is at c.in-Ok-Some.ensures in
    let told = c.reason_of.ensures mid done.state done.outcome ∙ ap (λ form. reason_if form.explain mid (meant event.line)) before.1 in
    (line_differs first.form start _ lines event done wants unread has first.rows.read self.rows.read c.take_text.new.self.read before.0 _ is _ c.in_ok-bytes.ensures.whole _ _ stops refl refl told, before.1, next, before.3)

pub returns-in-Err-Read : goal.returns-in-Err-Read
returns-in-Err-Read g c = λ start lines first began done before.
    let event = c.args.event.now in
    let mid = after_all start lines in
    let self = c.args.self.now in
    let made = c.make_text_of.ensures mid done.state done.text done.outcome in
    let text = subst (λ o. IfSome o (λ t. t ≡ line_text_in (unexplained self.form) event.number mid (meant event.line))) c.in_ok-bytes.ensures.whole made in
    let is = text ∙ ap (λ form. line_text_in (unexplained form) event.number mid (meant event.line)) before.1 in
    let wants = g.R.Read.remaining first.rows.reader in
    let unread = g.R.Read.remaining self.rows.reader in
    let has = g.R.Read.remaining c.take_text.new.self.reader in
    let next : c.saturating_add-self.result ≡ 1 + length (lines ++ event.bytes.now ∷ []) = omega (arith, c.saturating_add-self.ensures, min-eq_left done.fits, done.number, length-append lines (event.bytes.now ∷ [])) in
    let stops = rw c.in-Err-Read.field-0-is at c.in-Err-Read.ensures in
    (line_unread first.form start _ lines event done wants unread has first.rows.read self.rows.read c.take_text.new.self.read before.0 _ is stops.0 stops.1 stops.2 stops.3 stops.4 stops.5 stops.6, before.1, next, before.3)
