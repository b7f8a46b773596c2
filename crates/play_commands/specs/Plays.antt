-- SPDX-License-Identifier: MIT OR Apache-2.0
-- What a task leaves that was done with a trace.
use denote.Ref.{Bor}
use Rattle.std.specs.Prelude.{◌≡◌, ◌⊎◌, ℕ, ◌+◌, Bool, true, false, not, List, [], ◌∷◌, ◌++◌, length, Option, None, Some, Result, Ok, Err, IfErr, OnOk, ⊤}
use Rattle.std.specs.Io.KnownBytes.{Appends, Consumes, Keeps}
use Rattle.std.specs.List.{list_all}
use Rattle.ffa_playable.specs.Bench.{Bench, processors_of}
use Rattle.play_trace.specs.TraceLines.{feed, has_no_feed, are_lines, joined}
use Rattle.play_arguments.specs.declared.command_line.TextOptions.{TextOptions}
use Rattle.play_player.specs.declared.form.Form.{Form}
use Rattle.play_player.specs.declared.guards.Asks.{Asks}
use Rattle.play_player.specs.Compared.{NeverPrints, StopsInLast, unexplained}
use Rattle.play_player.specs.Forms.{plain, text_in}
use Rattle.play_player.specs.Guards.{AreMet, IsMet, guard_of, guards_among, near_from}
use Rattle.play_player.specs.Listening.{Heard}
use Rattle.play_player.specs.Past.{UnmetAmong}
use Rattle.play_player.specs.Reading.{IsAll, IsBadLine}
use Rattle.play_player.specs.Recorded.{Replays, recorded}
use Rattle.play_player.specs.Sessions.{EndsSession, good_text_in, is_heard}
use Rattle.play_report.specs.Guarded.{met_text, near_text}
use Rattle.play_report.specs.declared.failure.Failure.{Failure}
use Rattle.play_report.specs.declared.failure.Failure.TheVariants as failure
use Rattle.play_commands.specs.declared.task.Task.{Task}
use Rattle.play_commands.specs.declared.task.Task.TheVariants as task

-- the form that a text is asked for in
abbrev pub form_of : TextOptions → Form
form_of options = record {
  number = options.number;
  names = options.names;
  explain = options.explain;
  short = options.short;
}

-- STREAMS

-- what is known of a trace's reader and of a writer
pub record Streams : Type 0 where
  pub trace : Option (List ℕ)  -- what the reader had
  pub held : Option (List ℕ)  -- what the writer held before
  pub holds : Option (List ℕ)  -- what it holds

-- from a reader as it was, and a writer as it was and is, by what is known of each
abbrev pub streams_of : {R W : Type 0} → (R → Option (List ℕ)) → R → (W → Option (List ℕ)) → (before after : W) → Streams
streams_of remaining reader contents before after =
    record { trace = remaining reader; held = contents before; holds = contents after }

-- PLAYS, from this start, with these streams

-- the line behind these lines of a trace of so many processors is bad, and this is its number
pub record EndsBadly (processors : Option ℕ) (trace : Option (List ℕ)) (lines : List (List ℕ)) (n : ℕ) : Type 0 where
  pub left : Option (List ℕ)
  pub bytes : List ℕ
  pub each : are_lines processors lines ≡ true
  pub read : Consumes trace left (joined lines)
  pub number : n ≡ 1 + length lines
  pub bad : IsBadLine processors left bytes

-- a trace of so many processors began with these lines
abbrev pub BeganWith : Option ℕ → (trace : Option (List ℕ)) (lines : List (List ℕ)) → Type 0
BeganWith processors trace lines =
    (are_lines processors lines ≡ true) × ((left : Option (List ℕ)) × Consumes trace left (joined lines))

-- A trace was played to a listener: to its end, or up to a line at which the listener stopped it, or up to a bad line, or as far
-- as it could be read. `line` is the line that was read last.
abbrev pub PlaysTrace : {L Stop : Type 0} → Heard L Stop → (trace : Bor (List ℕ)) → Bench → Streams → (line : List ℕ) → L → L
    → Result (Option Stop) Failure → Type 0
PlaysTrace heard trace start streams line old new (Ok None) =
    (lines : List (List ℕ)) × (are_lines (processors_of start) lines ≡ true) × IsAll streams.trace (joined lines)
    × heard start lines old new streams.held streams.holds (Ok None)
PlaysTrace heard trace start streams line old new (Ok (Some stop)) =
    (lines : List (List ℕ)) × (rest : List ℕ) × (are_lines (processors_of start) (lines ++ line ∷ []) ≡ true)
    × IsAll streams.trace (joined (lines ++ line ∷ []) ++ rest)
    × heard start (lines ++ line ∷ []) old new streams.held streams.holds (Ok (Some stop))
PlaysTrace heard trace start streams line old new (Err (failure.BadLine n fault)) =
    (lines : List (List ℕ)) × EndsBadly (processors_of start) streams.trace lines n
    × heard start lines old new streams.held streams.holds (Ok None)
PlaysTrace heard trace start streams line old new (Err (failure.Read path)) =
    (lines : List (List ℕ)) × BeganWith (processors_of start) streams.trace lines
    × heard start lines old new streams.held streams.holds (Ok None) × (path ≡ trace)
PlaysTrace heard trace start streams line old new (Err failure.Write) = ⊤
PlaysTrace heard trace start streams line old new (Err failure.NoMemory) = ⊤
PlaysTrace heard trace start streams line old new (Err other) = ⊥

-- a trace was played to its end: what its reader had are lines, and their text was written in this form; where the play
-- is strict, their guards are met
pub record IsPlayed (strict : Bool) (form : Form) (start : Bench) (streams : Streams) : Type 0 where
  pub lines : List (List ℕ)
  pub each : are_lines (processors_of start) lines ≡ true
  pub all : IsAll streams.trace (joined lines)
  pub written : Appends streams.held streams.holds (text_in form 1 start lines)
  pub guards : strict ≡ true → AreMet start lines

-- a play stopped at line n: the lines before it were done, and their text was written
abbrev pub IsStopped : Bool → Form → Bench → Streams → ℕ → Type 0
IsStopped strict form start streams n =
    (lines : List (List ℕ)) × EndsBadly (processors_of start) streams.trace lines n
    × Appends streams.held streams.holds (text_in form 1 start lines) × (strict ≡ true → AreMet start lines)

-- a play could read no further: these lines were done, and their text was written
abbrev pub IsUnread : Bool → Form → Bench → Streams → Type 0
IsUnread strict form start streams =
    (lines : List (List ℕ)) × BeganWith (processors_of start) streams.trace lines
    × Appends streams.held streams.holds (text_in form 1 start lines) × (strict ≡ true → AreMet start lines)

-- a strict play stopped at line n: it is a guard that isn't met, those of the lines before it are, and the text of these
-- was written
pub record IsUnmet (form : Form) (start : Bench) (streams : Streams) (n : ℕ) : Type 0 where
  pub lines : List (List ℕ)
  pub line : List ℕ
  pub rest : List ℕ
  pub guard : Asks × List ℕ
  pub each : are_lines (processors_of start) lines ≡ true
  pub all : IsAll streams.trace (joined lines ++ (line ++ feed ∷ rest))
  pub single : has_no_feed line ≡ true
  pub number : n ≡ 1 + length lines
  pub guards : AreMet start lines
  pub is_guard : guard_of line ≡ Some guard
  pub unmet : IsMet start lines guard → ⊥
  pub written : Appends streams.held streams.holds (text_in form 1 start lines)

-- a play checked all guards: what its reader had are lines, their text was written, and of the guards among them some
-- aren't met, of which line n is the first
pub record IsUnmetInAll (form : Form) (start : Bench) (streams : Streams) (n : ℕ) : Type 0 where
  pub lines : List (List ℕ)
  pub each : are_lines (processors_of start) lines ≡ true
  pub all : IsAll streams.trace (joined lines)
  pub more : List ℕ
  pub unmet : UnmetAmong start [] lines (n ∷ more)
  pub written : Appends streams.held streams.holds (text_in form 1 start lines)

-- what a play comes to that checked all guards, where these are the numbers of the lines of those that aren't met
abbrev pub EndsGuards : List ℕ → Result (Unit {0}) Failure → Type 0
EndsGuards unmet (Ok done) = unmet ≡ []
EndsGuards unmet (Err (failure.Unmet n)) = (more : List ℕ) × (unmet ≡ n ∷ more)
EndsGuards unmet (Err other) = other ≡ failure.NoMemory

-- what was said of the guards of a trace of so many processors when it was played to its end: which of its lines are
-- nearly guards, and how many guards it has, which all are met
pub record TellsGuards (processors : Option ℕ) (trace : Option (List ℕ)) (before after : List ℕ) : Type 0 where
  pub lines : List (List ℕ)
  pub all : IsAll trace (joined lines)
  pub each : are_lines processors lines ≡ true
  pub says : after ≡ before ++ (near_text (near_from 1 lines) ++ met_text (guards_among lines))

-- a trace was played to its end, and recorded: what its reader had are lines, and they were written with the guards of
-- their play
pub record IsRecorded (start : Bench) (streams : Streams) : Type 0 where
  pub lines : List (List ℕ)
  pub each : are_lines (processors_of start) lines ≡ true
  pub all : IsAll streams.trace (joined lines)
  pub written : Appends streams.held streams.holds (joined (recorded start lines))
  pub replays : Replays start lines

-- a record stopped at line n: the lines before it were written with their guards
abbrev pub IsRecordStopped : Bench → Streams → ℕ → Type 0
IsRecordStopped start streams n =
    (lines : List (List ℕ)) × EndsBadly (processors_of start) streams.trace lines n
    × Appends streams.held streams.holds (joined (recorded start lines))

-- a record could read no further
abbrev pub IsRecordUnread : Bench → Streams → Type 0
IsRecordUnread start streams =
    (lines : List (List ℕ)) × BeganWith (processors_of start) streams.trace lines
    × Appends streams.held streams.holds (joined (recorded start lines))

-- a session with a trace was held to its end: what its reader had are lines, good and bad, and what ends a session, and the
-- text of the good ones was written in this form
pub record IsHeld (form : Form) (start : Bench) (streams : Streams) : Type 0 where
  pub lines : List (List ℕ)
  pub rest : List ℕ
  pub each : list_all is_heard lines ≡ true
  pub ends : EndsSession rest
  pub all : IsAll streams.trace (joined lines ++ rest)
  pub written : Appends streams.held streams.holds (good_text_in form 1 start lines)

-- a session could read no further: the good ones of these lines were done, and their text was written
abbrev pub IsUnheard : Form → Bench → Streams → Type 0
IsUnheard form start streams =
    (lines : List (List ℕ)) × (list_all is_heard lines ≡ true)
    × ((left : Option (List ℕ)) × Consumes streams.trace left (joined lines))
    × Appends streams.held streams.holds (good_text_in form 1 start lines)

-- what a trace prints to its end in this form is what is expected
pub record PrintsExpected (form : Form) (start : Bench) (trace expected : Option (List ℕ)) : Type 0 where
  pub lines : List (List ℕ)
  pub each : are_lines (processors_of start) lines ≡ true
  pub all : IsAll trace (joined lines)
  pub same : IsAll expected (text_in form 1 start lines)

-- what is expected begins with the text of these lines in this form
abbrev pub BeginsExpected : Form → Bench → (expected : Option (List ℕ)) (lines : List (List ℕ)) → Type 0
BeginsExpected form start expected lines =
    (more : Option (List ℕ)) × Consumes expected more (text_in form 1 start lines)

-- a comparison stopped at line n: what is expected begins with the text of the lines before it
abbrev pub IsCutShort : Form → Bench → (trace expected : Option (List ℕ)) → ℕ → Type 0
IsCutShort form start trace expected n =
    (lines : List (List ℕ)) × EndsBadly (processors_of start) trace lines n × BeginsExpected form start expected lines

-- a comparison could read no further of the trace: what is expected begins with the text of the lines before
abbrev pub IsCutOff : Form → Bench → (trace expected : Option (List ℕ)) → Type 0
IsCutOff form start trace expected =
    (lines : List (List ℕ)) × BeganWith (processors_of start) trace lines × BeginsExpected form start expected lines

-- a comparison could read no further of what is expected, which begins with the text of all of the trace's lines; or these
-- lines were done, and it begins with the text of all but the last one, and a front of that one's text
abbrev pub IsUnmatched : Form → Bench → (trace expected : Option (List ℕ)) → Type 0
IsUnmatched form start trace expected =
    (lines : List (List ℕ)) × BeganWith (processors_of start) trace lines
    × ((found : List ℕ) × (more : Option (List ℕ)) × Consumes expected more found
    × ((IsAll trace (joined lines) × (found ≡ text_in form 1 start lines)) ⊎ StopsInLast form start lines found))

-- TASKS: a reader, a writer and memory may always fail

-- whether a task tells of bad lines while it goes on
abbrev pub talks : {R : Type 0} → Task R → Bool
talks (task.Session form) = true
talks other = false

-- a task by what is known of its reader: the bytes that it had, if any are known
abbrev pub KnownTask : Type 0
KnownTask = Task (Option (List ℕ))

-- a task was done
abbrev pub IsDoneBy : KnownTask → Bench → Streams → Type 0
IsDoneBy task.Plain start streams = IsPlayed false plain start streams
IsDoneBy (task.Formed form) start streams = IsPlayed false form start streams
IsDoneBy (task.Guarded form keep_going) start streams = IsPlayed true form start streams
IsDoneBy task.Recorded start streams = IsRecorded start streams
IsDoneBy (task.Session form) start streams = IsHeld form start streams
IsDoneBy (task.Compare expected form) start streams =
    PrintsExpected (unexplained form) start streams.trace expected.reader × Keeps streams.held streams.holds

-- a task stopped at line n
abbrev pub StopsBy : KnownTask → Bench → Streams → ℕ → Type 0
StopsBy task.Plain start streams n = IsStopped false plain start streams n
StopsBy (task.Formed form) start streams n = IsStopped false form start streams n
StopsBy (task.Guarded form keep_going) start streams n = IsStopped (not keep_going) form start streams n
StopsBy task.Recorded start streams n = IsRecordStopped start streams n
StopsBy (task.Session form) start streams n = ⊥
StopsBy (task.Compare expected form) start streams n =
    IsCutShort (unexplained form) start streams.trace expected.reader n × Keeps streams.held streams.holds

-- a task could read no further of its trace
abbrev pub UnreadBy : KnownTask → Bench → Streams → Type 0
UnreadBy task.Plain start streams = IsUnread false plain start streams
UnreadBy (task.Formed form) start streams = IsUnread false form start streams
UnreadBy (task.Guarded form keep_going) start streams = IsUnread (not keep_going) form start streams
UnreadBy task.Recorded start streams = IsRecordUnread start streams
UnreadBy (task.Session form) start streams = IsUnheard form start streams
UnreadBy (task.Compare expected form) start streams =
    IsCutOff (unexplained form) start streams.trace expected.reader × Keeps streams.held streams.holds

-- a task could read no further of what is expected, whose path this is
abbrev pub UnmatchedBy : KnownTask → Bench → Streams → Bor (List ℕ) → Type 0
UnmatchedBy (task.Compare expected form) start streams path =
    IsUnmatched (unexplained form) start streams.trace expected.reader × Keeps streams.held streams.holds
    × (path ≡ expected.path)
UnmatchedBy other start streams path = ⊥

-- a task found another text
abbrev pub DiffersBy : KnownTask → Bench → (trace : Option (List ℕ)) → Type 0
DiffersBy (task.Compare expected form) start trace =
    NeverPrints (unexplained form) start trace expected.reader
DiffersBy other start trace = ⊥

-- a guard isn't met, in line n
abbrev pub UnmetBy : KnownTask → Bench → Streams → ℕ → Type 0
UnmetBy (task.Guarded form false) start streams n = IsUnmet form start streams n
UnmetBy (task.Guarded form true) start streams n = IsUnmetInAll form start streams n
UnmetBy other start streams n = ⊥

-- a task with the trace at this path fails; a play refuses no manifest, and reads no descriptor. What can't be read is
-- named: the trace, or what is expected.
abbrev pub PlayFails : KnownTask → (trace : Bor (List ℕ)) → Bench → Streams → Failure → Type 0
PlayFails task trace start streams (failure.BadLine n fault) = StopsBy task start streams n
PlayFails task trace start streams (failure.Read path) =
    (UnreadBy task start streams × (path ≡ trace)) ⊎ UnmatchedBy task start streams path
PlayFails task trace start streams failure.Write = ⊤
PlayFails task trace start streams failure.NoMemory = ⊤
PlayFails task trace start streams failure.Differs = DiffersBy task start streams.trace
PlayFails task trace start streams (failure.Unmet n) = UnmetBy task start streams n
PlayFails task trace start streams other = ⊥

-- a task with the trace at this path is done, or fails
pub record Plays (task : KnownTask) (trace : Bor (List ℕ)) (start : Bench) (streams : Streams)
    (result : Result (Unit {0}) Failure) : Type 0 where
  pub played : OnOk result (IsDoneBy task start streams)
  pub failed : IfErr result (PlayFails task trace start streams)
