-- SPDX-License-Identifier: MIT OR Apache-2.0
use Rattle.std.proofs.Common.{◌≡◌, None, Some, sym, ap, ◌∙◌, subst, refl}
use Rattle.ffa_playable.specs.Bench.{why_of}
use Rattle.play_reasons.specs.Checks.{number_of}
use Rattle.play_player.specs.Asking.{SaysCheck}
use Rattle.play_player.specs.Patterns.{check_in}
use Rattle.play_player.proofs.Cames.{check_answered, done_unchecked, refused_checked}
use Rattle.play_player.proofs.patterns.check_of.Goals as goal

pub returns-then-not-is_refused : goal.returns-then-not-is_refused
returns-then-not-is_refused g c =
    done_unchecked c.args.player.now.bench c.args.op.now c.args.outcome (sym c.is_refused.ensures ∙ c.if-not-is_refused.true)

pub returns-in_err-its : goal.returns-in_err-its
returns-in_err-its g c =
    let now = c.args.player.now.bench in
    let op = c.args.op.now in
    let answer : None ≡ why_of now op = c.in_err-its.ensures.why ∙ ap (λ s. why_of s op) c.machine.ensures in
    subst (λ check. SaysCheck now op c.args.outcome check) (sym c.from_residual.ensures)
    (refused_checked now op c.args.outcome None (sym c.is_refused.ensures ∙ c.if-not-is_refused.false) (check_answered now op c.in-Call.x None None c.in-Call.is answer refl))

pub returns-in-Refused : goal.returns-in-Refused
returns-in-Refused g c =
    let now = c.args.player.now.bench in
    let op = c.args.op.now in
    let x = c.in-Call.x in
    let refusal = c.in-Refused.refusal in
    let reason = c.in_ok-its.its.why in
    let answer : Some reason ≡ why_of now op = c.in_ok-its.ensures.why ∙ ap (λ s. why_of s op) c.machine.ensures in
    let tells : c.check_number.result ≡ check_in x (Some reason) =
    c.check_number.ensures.number ∙ ap (λ w0. number_of w0 refusal) c.low.ensures ∙ ap (λ w. check_in x (Some w)) (sym c.in-Refused.is) in
    refused_checked now op c.args.outcome c.check_number.result (sym c.is_refused.ensures ∙ c.if-not-is_refused.false)
    (check_answered now op x (Some reason) c.check_number.result c.in-Call.is answer tells)

pub returns-in-Fault : goal.returns-in-Fault
returns-in-Fault g c =
    let now = c.args.player.now.bench in
    let op = c.args.op.now in
    let x = c.in-Call.x in
    let reason = c.in_ok-its.its.why in
    let answer : Some reason ≡ why_of now op = c.in_ok-its.ensures.why ∙ ap (λ s. why_of s op) c.machine.ensures in
    let tells : None ≡ check_in x (Some reason) = ap (λ w. check_in x (Some w)) (sym c.in-Fault.is) in
    refused_checked now op c.args.outcome None (sym c.is_refused.ensures ∙ c.if-not-is_refused.false) (check_answered now op x (Some reason) None c.in-Call.is answer tells)
