-- SPDX-License-Identifier: MIT OR Apache-2.0
use Rattle.std.proofs.Common.{◌∙◌, ap, None, Some, Ok, Err, subst}
use Rattle.std.specs.Io.Buffered.{reader_remaining}
use Rattle.play_player.specs.declared.comparison.ComparisonStop.TheVariants.{Differs, Unreadable}
use Rattle.play_commands.specs.Plays.{PlaysTrace}
use Rattle.play_commands.specs.Purposes.{heard}
use Rattle.play_commands.proofs.Comparisons.{compared_differs, compared_failed, compared_unmatched, differing, ended_differs, ended_unmatched, ended_whole, hearing, hears_none}
use Rattle.play_commands.proofs.Plays.{passed}
use Rattle.play_commands.proofs.comparing.compare.Goals as goal

pub play_trace-requires : goal.play_trace-requires
play_trace-requires g c = hears_none (reader_remaining g.R.Read.remaining) c.args.player.now.bench c.new-comparer.result (g.W.Write.contents c.args.out.now) c.new-comparer.ensures.next

pub returns-in-Ok-Some-Differs : goal.returns-in-Ok-Some-Differs
returns-in-Ok-Some-Differs g c =
    let remaining = reader_remaining g.R.Read.remaining in
    let form = c.args.form in
    let start = c.args.player.now.bench in
    let streams = passed (g.R.Read.remaining c.args.trace.reader) (g.W.Write.contents c.args.out.now) (g.W.Write.contents c.play_trace.new.out) in
    let expected = heard g.R.Read.remaining c.args.expected in
    let line = c.play_trace.new.line.items in
    let old = c.new-comparer.result in
    let new = c.play_trace.new.listener in
    let path = c.args.trace.path in
    let wants_is = ap remaining c.new-comparer.ensures.reader ∙ c.in_ok-wanted.ensures.unread in
    let stopped = rw c.in-Ok-Some-Differs.field-0-0-is at rw c.in-Ok-Some-Differs.field-0-is at c.in-Ok-Some-Differs.ensures in
    let never = compared_differs remaining form start streams expected line old new path c.new-comparer.ensures.form wants_is c.in-Ok-Some-Differs.mismatch stopped in
    record {
      played = tt;
      failed = differing form start (passed (g.R.Read.remaining c.args.trace.reader) (g.W.Write.contents c.args.out.now) (g.W.Write.contents c.tell_difference-in-Ok-Some-Differs.new.out)) expected path never c.tell_difference-in-Ok-Some-Differs.result c.tell_difference-in-Ok-Some-Differs.ensures;
    }

pub returns-in-Ok-Some-Unreadable : goal.returns-in-Ok-Some-Unreadable
returns-in-Ok-Some-Unreadable g c =
    let remaining = reader_remaining g.R.Read.remaining in
    let form = c.args.form in
    let start = c.args.player.now.bench in
    let streams = passed (g.R.Read.remaining c.args.trace.reader) (g.W.Write.contents c.args.out.now) (g.W.Write.contents c.play_trace.new.out) in
    let expected = heard g.R.Read.remaining c.args.expected in
    let line = c.play_trace.new.line.items in
    let old = c.new-comparer.result in
    let new = c.play_trace.new.listener in
    let path = c.args.trace.path in
    let wants_is = ap remaining c.new-comparer.ensures.reader ∙ c.in_ok-wanted.ensures.unread in
    let stopped = rw c.in-Ok-Some-Unreadable.field-0-0-is at rw c.in-Ok-Some-Unreadable.field-0-is at c.in-Ok-Some-Unreadable.ensures in
    record {
      played = tt;
      failed = compared_unmatched remaining form start streams expected line old new path c.new-comparer.ensures.form wants_is stopped;
    }

pub returns-in-Ok-Some-Differs-end : goal.returns-in-Ok-Some-Differs-end
returns-in-Ok-Some-Differs-end g c =
    let remaining = reader_remaining g.R.Read.remaining in
    let form = c.args.form in
    let start = c.args.player.now.bench in
    let streams = passed (g.R.Read.remaining c.args.trace.reader) (g.W.Write.contents c.args.out.now) (g.W.Write.contents c.play_trace.new.out) in
    let expected = heard g.R.Read.remaining c.args.expected in
    let line = c.play_trace.new.line.items in
    let old = c.new-comparer.result in
    let new = c.play_trace.new.listener in
    let path = c.args.trace.path in
    let wants_is = ap remaining c.new-comparer.ensures.reader ∙ c.in_ok-wanted.ensures.unread in
    let ended = rw c.in-Ok-None.field-0-is at c.in-Ok-None.ensures in
    let left = rw c.in-Ok-Some-Differs-end.field-0-0-is at rw c.in-Ok-Some-Differs-end.field-0-is at c.in-Ok-Some-Differs-end.ensures in
    let never = ended_differs remaining form start streams expected line old new path c.new-comparer.ensures.form wants_is ended c.end.new.self.rows.row.items left.0 left.1 in
    record {
      played = tt;
      failed = differing form start (passed (g.R.Read.remaining c.args.trace.reader) (g.W.Write.contents c.args.out.now) (g.W.Write.contents c.tell_difference.new.out)) expected path never c.tell_difference.result c.tell_difference.ensures;
    }

pub returns-in-Ok-Some-Unreadable-end : goal.returns-in-Ok-Some-Unreadable-end
returns-in-Ok-Some-Unreadable-end g c =
    let remaining = reader_remaining g.R.Read.remaining in
    let form = c.args.form in
    let start = c.args.player.now.bench in
    let streams = passed (g.R.Read.remaining c.args.trace.reader) (g.W.Write.contents c.args.out.now) (g.W.Write.contents c.play_trace.new.out) in
    let expected = heard g.R.Read.remaining c.args.expected in
    let line = c.play_trace.new.line.items in
    let old = c.new-comparer.result in
    let new = c.play_trace.new.listener in
    let path = c.args.trace.path in
    let wants_is = ap remaining c.new-comparer.ensures.reader ∙ c.in_ok-wanted.ensures.unread in
    let ended = rw c.in-Ok-None.field-0-is at c.in-Ok-None.ensures in
    let left = rw c.in-Ok-Some-Unreadable-end.field-0-0-is at rw c.in-Ok-Some-Unreadable-end.field-0-is at c.in-Ok-Some-Unreadable-end.ensures in
    record {
      played = tt;
      failed = ended_unmatched remaining form start streams expected line old new path c.new-comparer.ensures.form wants_is ended (remaining c.end.new.self.rows.reader) left;
    }
