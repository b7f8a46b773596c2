-- SPDX-License-Identifier: MIT OR Apache-2.0
use Rattle.std.proofs.Common.{◌∙◌, subst}
use Rattle.play_trace.specs.Lines.{meant}
use Rattle.play_reasons.specs.Drafts.{Puts}
use Rattle.play_reasons.specs.Reasons.{told_line}
use Rattle.play_player.specs.Forms.{dressed}
use Rattle.play_player.proofs.Dressing.{is_dressed}
use Rattle.play_player.proofs.form.make_text.Goals as goal

pub returns-clause-made : goal.returns-clause-made
returns-clause-made g c =
    let start = c.args.player.now.bench in
    let done = c.in_ok-outcome.ensures in
    let outcome = c.in_ok-outcome.outcome in
    let reason = told_line c.reason_of-reason.result in
    let put = subst (λ old. Puts old c.dress.new.text (dressed c.args.form c.args.number outcome reason c.deref.result.now)) c.clear.ensures c.dress.ensures in
    is_dressed start (meant c.args.line.now) outcome c.deref.result.now (c.deref.ensures.value ∙ done.1) done.2 c.args.form c.args.number reason (c.reason_of-reason.ensures start done.0 done.2) c.dress.new.text put
