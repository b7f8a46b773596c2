-- SPDX-License-Identifier: MIT OR Apache-2.0
use Rattle.std.proofs.Common.{◌≡◌, ◌++◌, subst, IfSome}
use Rattle.std.specs.Io.{StopsAt, appended_bytes}
use Rattle.std.specs.Io.BufRead.{take_through}
use Rattle.std.specs.Io.KnownBytes.{Consumes}
use Rattle.play_trace.specs.TraceLines.{feed}
use Rattle.play_player.proofs.ReadLines.{failed_read, line_read}
use Rattle.play_player.proofs.read.next_line.Goals as goal

pub returns-in-Ok : goal.returns-in-Ok
returns-in-Ok g c =
    let all = c.read_until.new.buf.items in
    let none = c.clear.ensures.items in
    let read = subst (λ l. Consumes (g.R.Read.remaining c.args.reader.now) (g.R.Read.remaining c.read_until.new.self) (appended_bytes l all)) none c.in-Ok.ensures.none_lost in
    let stops = subst (λ l. StopsAt (appended_bytes l all) feed) none c.in-Ok.ensures.stops in
    let through = subst (λ l. IfSome (g.R.Read.remaining c.args.reader.now) (λ xs. all ≡ l ++ take_through feed xs)) none c.in-Ok.ensures.bytes in
    line_read _ _ all c.take_feed.new.line.items c.args.number c.take_feed.result read stops through c.take_feed.ensures

pub returns-in-Err-2 : goal.returns-in-Err-2
returns-in-Err-2 g c =
    let all = c.read_until.new.buf.items in
    let none = c.clear.ensures.items in
    let read = subst (λ l. Consumes (g.R.Read.remaining c.args.reader.now) (g.R.Read.remaining c.read_until.new.self) (appended_bytes l all)) none c.in-Err-2.ensures.none_lost in
    let stops = subst (λ l. StopsAt (appended_bytes l all) feed) none c.in-Err-2.ensures.stops in
    failed_read _ _ all c.take_whole.new.line.items c.args.number c.take_whole.result read stops c.take_whole.ensures
