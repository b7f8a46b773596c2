-- SPDX-License-Identifier: MIT OR Apache-2.0
use Rattle.std.proofs.Common.{◌+◌, ◌∙◌, sym, arith}
use Rattle.std.proofs.lemmas.List.{take_rest, nil_from_length}
use Rattle.std.proofs.lemmas.Bool.{eqb-true, eqb-false}
use Rattle.std.proofs.lemmas.Result.{err_from_is_err_and}
use Rattle.play_player.proofs.Feeds.{taking_none, line_done, line_failed, cannot_count, all_taken, none_left}
use Rattle.play_player.proofs.player.Player.do_lines.Goals as goal

pub loop-number-init : goal.loop-number-init
loop-number-init g c = taking_none _ _ _ _ _ c.requires.unended c.requires.numbered

pub returns-in_err-end_line : goal.returns-in_err-end_line
returns-in_err-end_line g c =
    let p = err_from_is_err_and c.from_residual.result c.from_residual.ensures.1 in
    rw (p.1, p.2)
    (line_failed _ _ _ _ _ _ _ _ _ _ c.loop-number.invariant _ _ c.in_err-end_line.field-0.0 c.in-Some.end c.loop-number.number c.loop-number.begun.items c.in-Some.ensures
    (omega arith) c.in_err-end_line.ensures.line)

pub loop-number-preserved : goal.loop-number-preserved
loop-number-preserved g c =
    rw (c.in_ok-end_line.ensures.none_begun, take_rest c.loop-number.rest.now (c.in-Some.end + 1))
    (line_done _ _ _ _ _ _ _ _ _ _ c.loop-number.invariant _ _ c.in-Some.end c.in-Some.ensures (omega arith) c.in_ok-end_line.ensures.line)

pub returns-in_default : goal.returns-in_default
returns-in_default g c = all_taken _ _ _ _ _ _ _ _ _ _ c.loop-number.invariant c.keep.new.begun.items c.keep.result c.in_default.ensures (omega arith) c.keep.ensures

pub returns-then-is_empty : goal.returns-then-is_empty
returns-then-is_empty g c = none_left _ _ _ _ _ _ _ _ _ _ c.loop-number.invariant (nil_from_length _ (eqb-true _ _ (sym c.is_empty.ensures ∙ c.if-is_empty.true)))

pub returns-else-is_empty : goal.returns-else-is_empty
returns-else-is_empty g c = cannot_count _ _ _ _ _ _ _ _ _ _ c.loop-number.invariant c.loop-number.number c.loop-number.begun.items
    c.loop-number-test.false (eqb-false _ _ (sym c.is_empty.ensures ∙ c.if-is_empty.false))
