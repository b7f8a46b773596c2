-- SPDX-License-Identifier: MIT OR Apache-2.0
use Rattle.std.proofs.Common.{Ok, ap, subst, ◌∙◌, ◌++◌}
use Rattle.play_player.specs.Checked.{ChecksLines}
use Rattle.play_player.proofs.Checks.{goes_none}
use Rattle.play_report.specs.Guarded.{near_text}
use Rattle.play_commands.specs.Plays.{EndsGuards, PlaysTrace}
use Rattle.play_commands.proofs.Plays.{checked_ended, checked_failed, checked_stopped, guards_told, passed}
use Rattle.play_commands.proofs.listeners.play_guarded.Goals as goal

pub play_trace-played-requires : goal.play_trace-played-requires
play_trace-played-requires g c =
    let new = c.new-checker.ensures in
    goes_none c.args.player.now.bench c.new-checker.result (g.W.Write.contents c.args.out.now) new.met new.unmet new.near new.unasked new.silent

pub returns-in-Ok-None-clause-played : goal.returns-in-Ok-None-clause-played
returns-in-Ok-None-clause-played g c =
    let start = c.args.player.now.bench in
    let streams = passed (g.R.Read.remaining c.args.trace.reader) (g.W.Write.contents c.args.out.now) (g.W.Write.contents c.play_trace-played.new.out) in
    let line = c.play_trace-played.new.line.items in
    let old = c.new-checker.result in
    let new = c.play_trace-played.new.listener in
    let path = c.args.trace.path in
    let whole = subst (λ o. PlaysTrace (ChecksLines {A = g.row.A.Denot}) path start streams line old new (Ok o)) (rw c.in-Ok-None.is at c.in-Ok-None.field-0-is) (rw c.in-Ok-None.is at c.play_trace-played.ensures) in
    let ended = subst (λ ns. EndsGuards ns c.end_guards.result) c.deref-in-Ok-None.ensures.value c.end_guards.ensures.ended in
    checked_ended c.args.form c.args.keep_going start streams line old new path c.new-checker.ensures.form c.new-checker.ensures.goes whole c.end_guards.result ended

pub returns-in-Ok-None-clause-told : goal.returns-in-Ok-None-clause-told
returns-in-Ok-None-clause-told g c =
    let start = c.args.player.now.bench in
    let streams = passed (g.R.Read.remaining c.args.trace.reader) (g.W.Write.contents c.args.out.now) (g.W.Write.contents c.play_trace-played.new.out) in
    let line = c.play_trace-played.new.line.items in
    let old = c.new-checker.result in
    let new = c.play_trace-played.new.listener in
    let path = c.args.trace.path in
    let whole = subst (λ o. PlaysTrace (ChecksLines {A = g.row.A.Denot}) path start streams line old new (Ok o)) (rw c.in-Ok-None.is at c.in-Ok-None.field-0-is) (rw c.in-Ok-None.is at c.play_trace-played.ensures) in
    let ended = subst (λ ns. EndsGuards ns c.end_guards.result) c.deref-in-Ok-None.ensures.value c.end_guards.ensures.ended in
    let before = c.args.told.now.items in
    let between = c.put_told.new.told.items in
    let unmet = c.in_ok-put_told.ensures.written ∙ ap (λ text. before ++ text) c.deref.ensures.value in
    let near = c.in_ok-tell_near.ensures.written ∙ ap (λ ns. between ++ near_text ns) c.deref-2.ensures.value in
    guards_told c.args.form c.args.keep_going start streams line old new path c.new-checker.ensures.form c.new-checker.ensures.goes before between c.tell_near.new.told.items c.end_guards.new.told.items whole c.new-checker.ensures.told unmet near
    c.end_guards.result ended c.end_guards.ensures.told

pub returns-in-Ok-Some-clause-played : goal.returns-in-Ok-Some-clause-played
returns-in-Ok-Some-clause-played g c =
    let start = c.args.player.now.bench in
    let streams = passed (g.R.Read.remaining c.args.trace.reader) (g.W.Write.contents c.args.out.now) (g.W.Write.contents c.play_trace-played.new.out) in
    let line = c.play_trace-played.new.line.items in
    let old = c.new-checker.result in
    let new = c.play_trace-played.new.listener in
    let path = c.args.trace.path in
    let breach = c.in-Ok-Some.breach in
    let stopped = subst (λ o. PlaysTrace (ChecksLines {A = g.row.A.Denot}) path start streams line old new (Ok o)) (rw c.in-Ok-Some.is at c.in-Ok-Some.field-0-is) (rw c.in-Ok-Some.is at c.play_trace-played.ensures) in
    record {
      played = tt;
      failed = checked_stopped c.args.form c.args.keep_going start streams line old new path c.new-checker.ensures.form c.new-checker.ensures.goes breach stopped c.tell_breach.result c.tell_breach.ensures;
    }

pub returns-clause-played : goal.returns-clause-played
returns-clause-played g c =
    let start = c.args.player.now.bench in
    let streams = passed (g.R.Read.remaining c.args.trace.reader) (g.W.Write.contents c.args.out.now) (g.W.Write.contents c.play_trace-played.new.out) in
    let line = c.play_trace-played.new.line.items in
    let old = c.new-checker.result in
    let new = c.play_trace-played.new.listener in
    let path = c.args.trace.path in
    let failed = rw c.in-Err.is at c.play_trace-played.ensures in
    record {
      played = tt;
      failed = checked_failed c.args.form c.args.keep_going start streams line old new path c.new-checker.ensures.form c.new-checker.ensures.goes c.in-Err.failure failed;
    }
