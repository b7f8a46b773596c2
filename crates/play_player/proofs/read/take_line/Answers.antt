-- SPDX-License-Identifier: MIT OR Apache-2.0
use Rattle.std.proofs.Common.{◌∙◌, ap}
use Rattle.std.proofs.lemmas.Result.{err_from_is_err_and}
use Rattle.play_trace.specs.TraceLines.{line_in}
use Rattle.play_player.proofs.ReadLines.{one_line, refused_untaken, unread_untaken}
use Rattle.play_player.proofs.read.take_line.Goals as goal

pub returns-in_err-next_line : goal.returns-in_err-next_line
returns-in_err-next_line g c =
    let p = err_from_is_err_and c.from_residual.result c.from_residual.ensures.1 in
    rw (p.1, p.2) (unread_untaken c.args.processors (g.R.Read.remaining c.args.reader.now) (g.R.Read.remaining c.next_line.new.reader) c.next_line.new.line.items c.args.number c.in_err-next_line.field-0.0 c.in_err-next_line.ensures)

pub returns-in-None : goal.returns-in-None
returns-in-None g c =
    let line = c.next_line.new.line.items in
    let one = one_line (g.R.Read.remaining c.args.reader.now) (g.R.Read.remaining c.next_line.new.reader) line c.args.number _ c.if-not-branch.false c.in_ok-next_line.ensures in
    refused_untaken c.args.processors _ _ line _ c.args.number c.refuse.result one.0 one.1 (c.in-None.ensures ∙ ap (line_in c.args.processors) c.deref.ensures.value) c.refuse.ensures
