-- SPDX-License-Identifier: MIT OR Apache-2.0
use Rattle.std.proofs.Common.{Err, Ok, subst, sym}
use Rattle.std.specs.Io.Buffered.{reader_remaining}
use Rattle.play_commands.specs.Plays.{PlaysTrace}
use Rattle.play_commands.proofs.Plays.{passed, traced, untraced}
use Rattle.play_commands.proofs.listeners.play_trace.Goals as goal

pub returns-in-Ok : goal.returns-in-Ok
returns-in-Ok g c =
    let start = c.args.player.now.bench in
    let held = g.W.Write.contents c.args.out.now in
    let holds = g.W.Write.contents c.play.new.out in
    let line = c.play.new.bytes.items in
    let all = traced g.L.Listener.heard start c.play.new.player.bench _ (reader_remaining g.R.Read.remaining c.play.new.reader) line c.args.listener.now c.play.new.listener held holds c.args.trace.path c.in-Ok.stop c.in-Ok.ensures in
    subst (λ had. PlaysTrace g.L.Listener.heard c.args.trace.path start (passed had held holds) line c.args.listener.now c.play.new.listener (Ok c.in-Ok.stop)) c.in_ok-reader.ensures.unread all

pub returns : goal.returns
returns g c =
    let start = c.args.player.now.bench in
    let held = g.W.Write.contents c.args.out.now in
    let holds = g.W.Write.contents c.play.new.out in
    let line = c.play.new.bytes.items in
    let fault = c.of_line.ensures.0 in
    let failed = untraced g.L.Listener.heard start c.play.new.player.bench _ (reader_remaining g.R.Read.remaining c.play.new.reader) line c.args.listener.now c.play.new.listener held holds c.args.trace.path fault c.in-Err.error c.in-Err.ensures in
    let from_reader = subst (λ failure. PlaysTrace g.L.Listener.heard c.args.trace.path start (passed (reader_remaining g.R.Read.remaining c.in_ok-reader.reader) held holds) line c.args.listener.now c.play.new.listener (Err failure)) (sym c.of_line.ensures.1) failed in
    subst (λ had. PlaysTrace g.L.Listener.heard c.args.trace.path start (passed had held holds) line c.args.listener.now c.play.new.listener (Err c.of_line.result)) c.in_ok-reader.ensures.unread from_reader
