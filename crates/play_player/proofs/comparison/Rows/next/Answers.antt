-- SPDX-License-Identifier: MIT OR Apache-2.0
use Rattle.std.proofs.Common.{arith, subst}
use Rattle.std.specs.Io.{StopsAt, appended_bytes}
use Rattle.std.specs.Io.KnownBytes.{Consumes}
use Rattle.play_trace.specs.TraceLines.{feed}
use Rattle.play_player.specs.Comparing.{EndsRow}
use Rattle.play_player.proofs.Rows.{failed_row}
use Rattle.play_player.proofs.comparison.Rows.next.Goals as goal

pub returns-in-Err-2 : goal.returns-in-Err-2
returns-in-Err-2 g c =
    let all = c.read_until.new.buf.items in
    let none = c.clear.ensures.items in
    let read = subst (λ l. Consumes (g.R.Read.remaining c.args.self.now.reader) (g.R.Read.remaining c.read_until.new.self) (appended_bytes l all)) none c.in-Err-2.ensures.none_lost in
    let stops = subst (λ l. StopsAt (appended_bytes l all) feed) none c.in-Err-2.ensures.stops in
    failed_row _ _ _ _ all c.end_row.result (omega arith) read stops (subst (λ row. EndsRow row c.end_row.result) c.deref.ensures.value c.end_row.ensures)
