-- SPDX-License-Identifier: MIT OR Apache-2.0
use Rattle.std.proofs.Common.{subst}
use Rattle.play_trace.specs.Lines.{meant}
use Rattle.play_reasons.specs.Drafts.{Puts}
use Rattle.play_reasons.specs.Reasons.{told_line}
use Rattle.play_player.specs.Forms.{dressed}
use Rattle.play_player.proofs.Dressing.{is_dressed}
use Rattle.play_player.proofs.form.make_text_of.Goals as goal

pub returns : goal.returns
returns g c = λ start next says came.
    let event = c.args.event.now in
    let reason = told_line c.reason_of-reason.result in
    let put = subst (λ old. Puts old c.dress.new.text (dressed c.args.form event.number event.outcome reason event.text.now)) c.clear.ensures c.dress.ensures in
    is_dressed start (meant event.line) event.outcome event.text.now says came c.args.form event.number reason (c.reason_of-reason.ensures start next came) c.dress.new.text put
