-- SPDX-License-Identifier: MIT OR Apache-2.0
use Rattle.std.proofs.Common.{◌∙◌, Ok, Err, ap}
use Rattle.std.proofs.lemmas.Result.{err_from_is_err_and}
use Rattle.play_trace.specs.TraceLines.{line_in}
use Rattle.play_player.proofs.OneLine.{line_answered}
use Rattle.play_player.proofs.player.Player.do_other.Goals as goal

pub returns-in_err-line-in-Some : goal.returns-in_err-line-in-Some
returns-in_err-line-in-Some g c =
    let p = err_from_is_err_and c.from_residual.result c.from_residual.ensures.1 in
    let is = c.in-Some.ensures ∙ ap (λ count. line_in count c.args.bytes.now) c.processors.ensures in
    rw (p.1, p.2) (line_answered _ _ _ _ c.args.number c.args.bytes.now _ is (Err c.in_err-line-in-Some.field-0.0) c.in_err-line-in-Some.ensures)

pub returns-in_ok-line-in-Some : goal.returns-in_ok-line-in-Some
returns-in_ok-line-in-Some g c =
    let is = c.in-Some.ensures ∙ ap (λ count. line_in count c.args.bytes.now) c.processors.ensures in
    line_answered _ _ _ _ c.args.number c.args.bytes.now _ is (Ok c.in_ok-line-in-Some.field-0) c.in_ok-line-in-Some.ensures
