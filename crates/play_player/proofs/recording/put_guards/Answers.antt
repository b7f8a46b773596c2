-- SPDX-License-Identifier: MIT OR Apache-2.0
use Rattle.std.proofs.Common.{◌+◌, ◌-◌, ◌++◌, ◌∷◌, [], ◌∙◌, ap, arith, drop, length, length-drop, map, subst, sym, take, ◌==◌}
use Rattle.std.proofs.lemmas.List.{take_rest}
use Rattle.std.proofs.lemmas.List.Quantifiers.{position-Some}
use Rattle.play_trace.specs.TraceLines.{feed, joined}
use Rattle.play_reasons.specs.Drafts.{Puts}
use Rattle.play_reasons.proofs.Together.{nothing, together}
use Rattle.play_player.specs.Guards.{lines_in}
use Rattle.play_player.specs.Recorded.{guard_for}
use Rattle.play_player.proofs.Replaying.{first_guard}
use Rattle.play_player.proofs.TextLines.{lines_in-end}
use Rattle.play_player.proofs.recording.put_guards.Goals as goal

pub overflow_add-rest : goal.overflow_add-rest
overflow_add-rest g c =
    let inside = position-Some (λ b. b == feed) c.loop-end.rest.now c.in-Some.end 0 (sym c.first_feed.ensures ∙ c.in-Some.is) in
    omega (arith, inside.0, c.loop-end.invariant.0)

pub loop-end-preserved : goal.loop-end-preserved
loop-end-preserved g c = (
  omega (arith, ap length (take_rest c.loop-end.rest.now (c.in-Some.end + 1)), length-drop (c.in-Some.end + 1) c.loop-end.rest.now, c.loop-end.invariant.0),
  λ new put.
      let said = c.loop-end.rest.now in
      let end = c.in-Some.end in
      let text = c.loop-end.text in
      let more = joined (map guard_for (lines_in (take (length said - (end + 1)) (drop (end + 1) said)))) in
      let whole = ap (λ r. joined (guard_for (take end said) ∷ []) ++ joined (map guard_for (lines_in r))) (take_rest said (end + 1)) ∙ first_guard said end (sym c.first_feed.ensures ∙ c.in-Some.is) in
      c.loop-end.invariant.1 new (subst (Puts text new) whole (together text c.put_guard.new.text new (joined (guard_for (take end said) ∷ [])) more c.put_guard.ensures put)),
)

pub returns : goal.returns
returns g c =
    let text = c.loop-end.text in
    let none = ap (λ ls. joined (map guard_for ls)) (sym (lines_in-end c.loop-end.rest.now (sym c.first_feed.ensures ∙ c.in_default.is))) in
    c.loop-end.invariant.1 text (subst (Puts text text) none (nothing text))
