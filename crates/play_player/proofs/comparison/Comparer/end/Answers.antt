-- SPDX-License-Identifier: MIT OR Apache-2.0
use Rattle.std.proofs.Common.{◌≡◌, vec_len, sym, ◌∙◌, arith, eqb-true}
use Rattle.std.proofs.lemmas.List.{nil_from_length}
use Rattle.play_player.proofs.Rows.{none_left}
use Rattle.play_player.proofs.comparison.Comparer.end.Goals as goal

pub returns-in-Ok : goal.returns-in-Ok
returns-in-Ok g c =
    let none : vec_len c.next.new.self.row ≡ 0 = eqb-true _ _ (sym c.is_empty.ensures ∙ c.if-is_empty.true) in
    none_left (g.R.Read.remaining c.args.self.now.rows.reader) c.next.new.self.row.items c.in-Ok.ensures.3 (nil_from_length c.next.new.self.row.items (omega (arith, none, c.next.new.self.row.ok.0)))
