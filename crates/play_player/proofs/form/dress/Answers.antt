-- SPDX-License-Identifier: MIT OR Apache-2.0
use Rattle.std.proofs.Common.{◌≡◌, ◌≢◌, [], length, sym, ◌∙◌, subst}
use Rattle.std.proofs.lemmas.Bool.{eqb-true, eqb-false}
use Rattle.std.proofs.lemmas.List.{nil_from_length}
use Rattle.play_reasons.specs.Drafts.{Puts}
use Rattle.play_reasons.specs.Reasons.{told_line}
use Rattle.play_reasons.proofs.Together.{nothing}
use Rattle.play_player.specs.Forms.{dressed}
use Rattle.play_player.proofs.Dressing.{parts_put}
use Rattle.play_player.proofs.form.dress.Goals as goal

pub returns-then-is_empty : goal.returns-then-is_empty
returns-then-is_empty g c =
    let none : c.args.said.now ≡ [] = nil_from_length _ (eqb-true _ _ (sym c.is_empty.ensures ∙ c.if-is_empty.true)) in
    subst (λ said. Puts c.args.text.now c.args.text.now (dressed c.args.form c.args.number c.args.outcome (told_line c.args.reason) said)) (sym none) (nothing c.args.text.now)

pub returns : goal.returns
returns g c =
    let some : length c.args.said.now ≢ 0 = eqb-false _ _ (sym c.is_empty.ensures ∙ c.if-is_empty.false) in
    parts_put c.args.form c.args.number c.args.outcome (told_line c.args.reason) c.args.said.now some c.args.text.now c.put_number_in.new.text c.put_worded.new.text c.put_reason.new.text
    c.put_number_in.ensures c.put_worded.ensures c.put_reason.ensures
