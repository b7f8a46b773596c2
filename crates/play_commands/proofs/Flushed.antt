-- SPDX-License-Identifier: MIT OR Apache-2.0
-- What a command left, behind a flush: known bytes stay as they were.
use Rattle.std.proofs.Common.{◌∙◌, Bool, true, false, List, ℕ, Option, None, Some}
use Rattle.std.specs.Io.KnownBytes.{Appends, Keeps}
use Rattle.ffa_playable.specs.Bench.{Bench}
use Rattle.play_arguments.specs.declared.command_line.PlayOptions.{PlayOptions}
use Rattle.play_arguments.specs.declared.command_line.Request.{Request}
use Rattle.play_arguments.specs.declared.command_line.Request.TheVariants as request
use Rattle.play_player.specs.declared.form.Form.{Form}
use Rattle.play_report.specs.declared.failure.Failure.{Failure}
use Rattle.play_report.specs.declared.failure.Failure.TheVariants as failure
use Rattle.play_commands.specs.Plays.{IsDoneBy, IsPlayed, KnownTask, StopsBy, UnmetBy}
use Rattle.play_commands.specs.declared.task.Task.TheVariants as task
use Rattle.play_generator.specs.Traces.{Wrote}
use Rattle.play_commands.specs.Performed.{Differs, FailsFor, IsDone, IsQuiet, IsUnsaid, Played, Ran, StopsAt, UnmetAt}

appended : (held mid holds : Option (List ℕ)) (text : List ℕ) → Keeps mid holds → Appends held mid text → Appends held holds text
appended None mid holds text kept added = tt
appended (Some xs) None holds text kept added = absurd added
appended (Some xs) (Some ys) None text kept added = absurd kept
appended (Some xs) (Some ys) (Some zs) text kept added = kept ∙ added

quiet_on : (held mid holds : Option (List ℕ)) → Keeps mid holds → Keeps held mid → Keeps held holds
quiet_on None mid holds kept same = tt
quiet_on (Some xs) None holds kept same = absurd same
quiet_on (Some xs) (Some ys) None kept same = absurd kept
quiet_on (Some xs) (Some ys) (Some zs) kept same = kept ∙ same

-- what was left, where the writer holds this
abbrev pub with_holds : Ran → Option (List ℕ) → Ran
with_holds ran holds = record ran { streams = record ran.streams { holds = holds } }

module _ (ran : Ran) (holds : Option (List ℕ)) (kept : Keeps ran.streams.holds holds) where
  written : (text : List ℕ) → Appends ran.streams.held ran.streams.holds text → Appends ran.streams.held holds text
  written text = appended ran.streams.held ran.streams.holds holds text kept

  pub quiet : IsQuiet ran → IsQuiet (with_holds ran holds)
  quiet = quiet_on ran.streams.held ran.streams.holds holds kept

  played : {strict : Bool} {form : Form} {start : Bench} → IsPlayed strict form start ran.streams → IsPlayed strict form start (with_holds ran holds).streams
  played p = record { lines = p.lines; each = p.each; all = p.all; written = written _ p.written; guards = p.guards }

  wrote : {count : ℕ} → Wrote count ran.streams.held ran.streams.holds → Wrote count ran.streams.held holds
  wrote p = record { lines = p.lines; good = p.good; number = p.number; written = written _ p.written }

  done_by : (t : KnownTask) (start : Bench) → IsDoneBy t start ran.streams → IsDoneBy t start (with_holds ran holds).streams
  done_by task.Recorded start p = record { lines = p.lines; each = p.each; all = p.all; written = written _ p.written; replays = p.replays }
  done_by (task.Session form) start p = record { lines = p.lines; rest = p.rest; each = p.each; ends = p.ends; all = p.all; written = written _ p.written }
  done_by (task.Compare expected form) start (p, still) = (p, quiet still)
  done_by _ start p = played p

  stops_by : (t : KnownTask) (start : Bench) (n : ℕ) → StopsBy t start ran.streams n → StopsBy t start (with_holds ran holds).streams n
  stops_by task.Plain start n (lines, ends, p, met) = (lines, ends, written _ p, met)
  stops_by (task.Formed form) start n (lines, ends, p, met) = (lines, ends, written _ p, met)
  stops_by (task.Guarded form keep_going) start n (lines, ends, p, met) = (lines, ends, written _ p, met)
  stops_by task.Recorded start n (lines, ends, p) = (lines, ends, written _ p)
  stops_by (task.Session form) start n never = absurd never
  stops_by (task.Compare expected form) start n (p, still) = (p, quiet still)

  unmet_by : (t : KnownTask) (start : Bench) (n : ℕ) → UnmetBy t start ran.streams n → UnmetBy t start (with_holds ran holds).streams n
  unmet_by (task.Guarded form false) start n p = record {
    lines = p.lines;
    line = p.line;
    rest = p.rest;
    guard = p.guard;
    each = p.each;
    all = p.all;
    single = p.single;
    number = p.number;
    guards = p.guards;
    is_guard = p.is_guard;
    unmet = p.unmet;
    written = written _ p.written;
  }
  unmet_by (task.Guarded form true) start n p =
      record { lines = p.lines; each = p.each; all = p.all; more = p.more; unmet = p.unmet; written = written _ p.written }
  unmet_by other start n p = p

  -- a play that left one thing left another
  leaves : (o : PlayOptions) {L M : KnownTask → Bench → Type 0} → ((t : KnownTask) (start : Bench) → L t start → M t start) → Played o ran L
      → Played o (with_holds ran holds) M
  leaves o f p = record { parts = p.parts; source = p.source; task = p.task; serves = p.serves; left = f _ _ p.left }

  pub done : (request : Request) → IsDone request ran → IsDone request (with_holds ran holds)
  done (request.Play o) p = leaves o done_by p
  done (request.Check manifest ffa verbose) (parts, is, p) = (parts, is, written _ p)
  done (request.Layout manifest regions ffa verbose) (parts, is, p) = (parts, is, written _ p)
  done (request.Descriptor path words) (own, are, (said, is, (text, grows, p))) = (own, are, (said, is, (text, grows, written _ p)))
  done (request.Generate o) (parts, is, p) = (parts, is, λ prints. wrote (p prints))
  done (request.Test o) p = quiet p
  done (request.Lower trace verbose) p = quiet p

  stops : (request : Request) (n : ℕ) → StopsAt request ran n → StopsAt request (with_holds ran holds) n
  stops (request.Play o) n p = leaves o (λ t start. stops_by t start n) p
  stops other n p = p

  differs : (request : Request) → Differs request ran → Differs request (with_holds ran holds)
  differs (request.Play o) p = leaves o (λ t start same. same) p
  differs other p = p

  breached : (request : Request) (n : ℕ) → UnmetAt request ran n → UnmetAt request (with_holds ran holds) n
  breached (request.Play o) n p = leaves o (λ t start. unmet_by t start n) p
  breached other n p = p

  unsaid : (request : Request) → IsUnsaid request ran → IsUnsaid request (with_holds ran holds)
  unsaid (request.Descriptor path words) p = p
  unsaid other p = p

  pub fails : (request : Request) (it : Failure) → FailsFor request ran it → FailsFor request (with_holds ran holds) it
  fails request (failure.Manifest cause) (needs, is, still) = (needs, is, quiet still)
  fails request (failure.BadLine n fault) p = stops request n p
  fails request failure.Differs p = differs request p
  fails request (failure.Unmet n) p = breached request n p
  fails request (failure.Words fault) (p, still) = (unsaid request p, quiet still)
  fails request (failure.Unfit cause) (p, still) = (unsaid request p, quiet still)
  fails request _ p = p
