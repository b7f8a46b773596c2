-- SPDX-License-Identifier: MIT OR Apache-2.0
use Rattle.std.proofs.Common.{◌≡◌, ◌∙◌, Option, is_some, ap, sym, subst}
use Rattle.std.specs.Prelude.{IfSome}
use Rattle.std.specs.Option.{option_map}
use Rattle.ffa_model.specs.declared.why.Why.{Why}
use Rattle.ffa_model.specs.State.{State}
use Rattle.ffa_model.specs.Step.{step}
use Rattle.ffa_model.specs.Why.{outcome_of}
use Rattle.ffa_model.proofs.Reasons.{why-outcome, why-refused}
use Rattle.ffa_playable.specs.declared.detail.Explanation.{Explanation}
use Rattle.ffa_playable.specs.Standing.{detail}
use Rattle.ffa_reasons.specs.Explanation.{explanation}
use Rattle.ffa_reasons.proofs.Explanations.{detail-explained, of-reason, reason-explained, some-reason}
use Rattle.ffa_reasons.proofs.telling.why.Goals as goal

pub returns-clause-why : goal.returns-clause-why
returns-clause-why g c =
    let is = c.why.ensures ∙ ap (λ (s : State). explanation s c.args.op.now) c.of.ensures in
    ap (option_map (λ (its : Explanation). its.why)) is ∙ reason-explained c.args.machine.now.state c.args.op.now

pub returns-clause-detail : goal.returns-clause-detail
returns-clause-detail g c =
    let is = c.why.ensures ∙ ap (λ (s : State). explanation s c.args.op.now) c.of.ensures in
    subst (λ (o : Option Explanation). IfSome o (λ its. its.detail ≡ detail c.args.machine.now.state c.args.op.now its.why)) (sym is)
    (detail-explained c.args.machine.now.state c.args.op.now)

pub returns-clause-refused : goal.returns-clause-refused
returns-clause-refused g c =
    let is = c.why.ensures ∙ ap (λ (s : State). explanation s c.args.op.now) c.of.ensures in
    let reason = ap (option_map (λ (its : Explanation). its.why)) is ∙ reason-explained c.args.machine.now.state c.args.op.now in
    some-reason _ ∙ ap (λ (o : Option Why). is_some o) reason ∙ why-refused c.args.machine.now.state c.args.op.now

pub returns-clause-outcome : goal.returns-clause-outcome
returns-clause-outcome g c =
    let is = c.why.ensures ∙ ap (λ (s : State). explanation s c.args.op.now) c.of.ensures in
    let reason = ap (option_map (λ (its : Explanation). its.why)) is ∙ reason-explained c.args.machine.now.state c.args.op.now in
    of-reason (λ reason. (step c.args.machine.now.state c.args.op.now).outcome ≡ outcome_of c.args.machine.now.state reason) _
    (subst (λ (o : Option Why). IfSome o (λ reason. (step c.args.machine.now.state c.args.op.now).outcome ≡ outcome_of c.args.machine.now.state reason)) (sym reason)
    (why-outcome c.args.machine.now.state c.args.op.now))
