-- SPDX-License-Identifier: MIT OR Apache-2.0
use Rattle.std.proofs.Common.{ℕ, sym, ap₂, ◌∙◌, arith}
use Rattle.ffa_model.specs.Identifiers.{identifier}
use Rattle.ffa_model.specs.Access.{access}
use Rattle.ffa_model.specs.Alike.{is_same_right}
use Rattle.play_trace.proofs.Listed.{all_more, one_fails}
use Rattle.play_player.proofs.show.has_same_accesses.Goals as goal

pub returns-then-not-is_same_right : goal.returns-then-not-is_same_right
returns-then-not-is_same_right g c =
    let same = λ (e : ℕ). is_same_right (access (g.P.Playable.bench c.args.machine.now).state e c.args.page.0) (access (g.P.Playable.bench c.args.machine.now).state e c.args.other.0) in
    sym (one_fails same identifier c.loop-place.place _ (omega (arith, c.endpoints-place-end.ensures.number))
    (sym (c.is_same_right.ensures ∙ ap₂ is_same_right c.access.ensures c.access-in-loop-place.ensures) ∙ c.if-not-is_same_right.true))

pub loop-place-preserved : goal.loop-place-preserved
loop-place-preserved g c =
    let same = λ (e : ℕ). is_same_right (access (g.P.Playable.bench c.args.machine.now).state e c.args.page.0) (access (g.P.Playable.bench c.args.machine.now).state e c.args.other.0) in
    all_more same identifier c.loop-place.place c.loop-place.invariant
    (sym (c.is_same_right.ensures ∙ ap₂ is_same_right c.access.ensures c.access-in-loop-place.ensures) ∙ c.if-not-is_same_right.false)
