-- SPDX-License-Identifier: MIT OR Apache-2.0
use Rattle.std.proofs.Common.{◌≡◌, ◌∙◌, vec_len, sym, arith}
use Rattle.std.proofs.lemmas.List.{nil_from_length}
use Rattle.std.proofs.lemmas.Bool.{eqb-true}
use Rattle.play_player.proofs.OneLine.{line_ended}
use Rattle.play_player.proofs.player.Player.end_line.Goals as goal

pub returns-then-is_empty-clause-line : goal.returns-then-is_empty-clause-line
returns-then-is_empty-clause-line g c =
    let none : vec_len c.args.begun.now ≡ 0 = eqb-true _ _ (sym c.is_empty.ensures ∙ c.if-is_empty.true) in
    rw (nil_from_length c.args.begun.now.items (omega (arith, none, c.args.begun.now.ok.0))) (line_ended _ _ _ _ c.args.number c.args.piece.now c.do_line.result c.do_line.ensures)
