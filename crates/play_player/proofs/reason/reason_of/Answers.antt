-- SPDX-License-Identifier: MIT OR Apache-2.0
use Rattle.std.proofs.Common.{◌≡◌, None, Some, sym, ap, ◌∙◌, subst}
use Rattle.ffa_playable.specs.Bench.{Bench, why_of}
use Rattle.ffa_playable.specs.Standing.{detail}
use Rattle.play_trace.specs.Lines.{meant}
use Rattle.play_player.specs.Steps.{SaysWhy}
use Rattle.play_player.proofs.Whys.{says_none, says_nothing, says_unasked, says_why}
use Rattle.play_player.proofs.reason.reason_of.Goals as goal
use Rattle.play_player.proofs.reason.reason_of.Goals.{then-not-explain-via-then-not-explain, then-not-explain-via-else-not-explain+then-not-is_refused}

pub returns-then-not-explain : goal.returns-then-not-explain
returns-then-not-explain g c =
    elim c.then-not-explain.branch [
      | then-not-explain-via-then-not-explain w ↦ says_unasked c.args.explain _ (meant c.args.line.now) c.args.outcome w.if-not-explain.true
      | then-not-explain-via-else-not-explain+then-not-is_refused w ↦
          says_nothing c.args.explain _ (meant c.args.line.now) c.args.outcome (sym w.is_refused.ensures ∙ w.if-not-is_refused.true)
    ]

pub returns-in_err-its-in-Operation : goal.returns-in_err-its-in-Operation
returns-in_err-its-in-Operation g c =
    let now = c.args.player.now.bench in
    let is : None ≡ why_of now c.in-Operation.op = c.in_err-its-in-Operation.ensures.why ∙ ap (λ s. why_of s c.in-Operation.op) c.machine.ensures in
    subst (λ reason. SaysWhy c.args.explain now (meant c.args.line.now) c.args.outcome reason) (sym c.from_residual.ensures)
    (subst (λ line. SaysWhy c.args.explain now (meant line) c.args.outcome None) (sym c.in-Operation.is)
    (says_none c.args.explain now c.in-Operation.op c.args.outcome c.if-not-explain.false (sym c.is_refused.ensures ∙ c.if-not-is_refused.false) is))

pub returns-in_ok-its-in-Operation : goal.returns-in_ok-its-in-Operation
returns-in_ok-its-in-Operation g c =
    let now = c.args.player.now.bench in
    let its = c.in_ok-its-in-Operation.its in
    let reason = its.why in
    let is : Some reason ≡ why_of now c.in-Operation.op = c.in_ok-its-in-Operation.ensures.why ∙ ap (λ s. why_of s c.in-Operation.op) c.machine.ensures in
    let detailed : its.detail ≡ detail now.state c.in-Operation.op reason =
    c.in_ok-its-in-Operation.ensures.detail ∙ ap (λ (s : Bench). detail s.state c.in-Operation.op reason) c.machine.ensures in
    let begins = c.ram_base-base.ensures.value ∙ ap (λ (s : Bench). s.state.ram_base) c.machine-in-Operation.ensures in
    subst (λ line. SaysWhy c.args.explain now (meant line) c.args.outcome (Some (record { base = c.ram_base-base.result; op = c.in-Operation.op; why = reason; detail = its.detail }))) (sym c.in-Operation.is)
    (says_why c.args.explain now c.in-Operation.op c.args.outcome c.if-not-explain.false (sym c.is_refused.ensures ∙ c.if-not-is_refused.false) c.ram_base-base.result reason its.detail begins is detailed)
