-- SPDX-License-Identifier: MIT OR Apache-2.0
-- What a command of the program leaves.
use Rattle.std.specs.Prelude.{◌≡◌, ◌⊎◌, ℕ, Bool, true, false, List, None, Option, Result, Ok, Err, IfErr, OnOk, is_some, option_map, ⊤, option_and_then}
use Rattle.std.specs.List.{list_all}
use Rattle.std.specs.Io.KnownBytes.{Keeps}
use Rattle.ffa_model.specs.State.{State}
use Rattle.ffa_model.specs.First.{first}
use Rattle.ffa_model.specs.declared.manifest.Ffa.{Ffa}
use Rattle.ffa_model.specs.declared.manifest.Ffa.TheVariants.{V1_1, V1_2}
use Rattle.ffa_playable.specs.Bench.{Bench}
use Rattle.play_arguments.specs.Machine.{built_in_endpoints}
use Rattle.ffa_manifest.specs.Document.{Parts}
use Rattle.play_trace.specs.TraceLines.{has_no_feed, joined}
use Rattle.play_trace.specs.declared.output.PlayError.{PlayError}
use Rattle.play_trace.specs.declared.output.PlayError.TheVariants as play_error
use Rattle.play_player.specs.Guards.{guards_among}
use Rattle.play_player.specs.Reading.{IsAll}
use Rattle.play_trace.specs.declared.unfit.Unfit.{Unfit}
use Rattle.play_generator.specs.Counting.{Tally}
use Rattle.play_generator.specs.Traces.{Wrote}
use Rattle.play_report.specs.declared.fault.WordsFault.{WordsFault}
use Rattle.play_report.specs.Descriptors.{AreWords, IsMisread, IsSaidFor, IsUnfit}
use Rattle.play_report.specs.Manifests.{Describes, FailsUnplayed, IsAccepted, IsChecked, IsLaidOut, IsRefused, SomeCause, bytes_of}
use Rattle.play_report.specs.declared.failure.Failure.{Failure}
use Rattle.play_report.specs.declared.failure.Failure.TheVariants as failure
use Rattle.play_commands.specs.Counted.{CountsTrace}
use Rattle.play_commands.specs.Plays.{DiffersBy, IsDoneBy, KnownTask, StopsBy, Streams, UnmetBy, streams_of}
use Rattle.play_commands.specs.Starts.{begun_by}
use Rattle.play_commands.specs.Purposes.{IsTaskFor, is_session_for, is_strict_for}
use Rattle.play_arguments.specs.Commands.{Described, ask_of, manifest_of, trace_of}
use Rattle.play_arguments.specs.declared.command_line.GenerateOptions.{GenerateOptions}
use Rattle.play_arguments.specs.declared.command_line.PlayOptions.{PlayOptions}
use Rattle.play_arguments.specs.declared.command_line.Source.{Source}
use Rattle.play_arguments.specs.declared.command_line.Source.TheVariants as source
use Rattle.play_arguments.specs.declared.command_line.Request.{Request}
use Rattle.play_arguments.specs.declared.command_line.Request.TheVariants as request
use Rattle.play_commands.specs.declared.files.Files.{Files}

-- the state in which a machine of these parts starts
abbrev pub first_of : Parts → State
first_of parts = first parts.ffa parts.ram_base parts.tables parts.ram_blocks parts.endpoints

-- the built-in machine, where it serves this version of FF-A
abbrev pub built_in_parts : Ffa → Parts
built_in_parts ffa = record { ram_base = 0x40000000; ram_blocks = 1; tables = 0; endpoints = built_in_endpoints; ffa = ffa }

-- COMMANDS

-- whether a command reads a manifest
abbrev pub needs_manifest : Request → Bool
needs_manifest request = is_some (manifest_of (ask_of request))

-- the version of FF-A that the machine of a command's manifest serves; a descriptor takes the manifest of a machine of any version
abbrev pub ffa_of : Request → Ffa
ffa_of (request.Play o) = o.machine.ffa
ffa_of (request.Check manifest ffa verbose) = ffa
ffa_of (request.Layout manifest regions ffa verbose) = ffa
ffa_of (request.Generate o) = o.ffa
ffa_of (request.Descriptor path words) = V1_2
ffa_of other = V1_1

-- whether a command plays a trace
abbrev pub needs_trace : Request → Bool
needs_trace request = is_some (trace_of (ask_of request))

-- whether a command is a session, and whether it checks the guards of its trace
abbrev pub is_session : Request → Bool
is_session (request.Play o) = is_session_for o.purpose
is_session other = false

abbrev pub is_strict : Request → Bool
is_strict (request.Play o) = is_strict_for o.purpose
is_strict other = false

-- what a command was given, and what it left
pub record Ran : Type 0 where
  pub manifest : Option (List ℕ)  -- the bytes of the manifest's file, if it could be read
  pub is_open : Bool  -- the trace's file could be opened
  pub expected : Option (Option (List ℕ))  -- what the reader of the expected text had, if its file could be opened
  pub streams : Streams  -- what the trace's reader had, and what the writer of the output held before, and holds

-- of these files, with a writer as it was and is, by what is known of a reader and of a writer
abbrev pub ran : {R W : Type 0} → (R → Option (List ℕ)) → Files R → (W → Option (List ℕ)) → (before after : W) → Ran
ran remaining files contents before after = record {
  manifest = bytes_of files.manifest;
  is_open = is_some files.trace;
  expected = option_map remaining files.expected;
  streams = streams_of (option_and_then remaining) files.trace contents before after;
}

-- nothing was written
abbrev pub IsQuiet : Ran → Type 0
IsQuiet ran = Keeps ran.streams.held ran.streams.holds

-- a trace of so many lines was made up for the manifest's machine, and written unless its calls were to be counted
abbrev pub IsMade : GenerateOptions → (manifest held holds : Option (List ℕ)) → Type 0
IsMade o manifest held holds =
    (parts : Parts) × Describes o.ffa manifest parts × (o.count ≡ false → Wrote o.lines held holds)

-- the machine of a source that serves this version of FF-A has these parts
abbrev pub HasParts : Ffa → Source → (manifest : Option (List ℕ)) → Parts → Type 0
HasParts ffa source.BuiltIn manifest parts = parts ≡ built_in_parts ffa
HasParts ffa (source.File path) manifest parts = Describes ffa manifest parts

-- a trace was played on the machine of its source, by as many processors as are asked for, by a task that serves its
-- purpose, and left this
pub record Played (o : PlayOptions) (ran : Ran) (Left : KnownTask → Bench → Type 0) : Type 0 where
  pub parts : Parts
  pub source : HasParts o.machine.ffa o.source ran.manifest parts
  pub task : KnownTask
  pub serves : IsTaskFor o.purpose ran.expected task
  pub left : Left task (begun_by o.machine.processors (first_of parts))

-- a trace was counted on the machine of its source, as far as this says
abbrev pub IsCounted : PlayOptions → (manifest trace : Option (List ℕ)) → Tally → Tally → Result (Unit {0}) PlayError → Type 0
IsCounted o manifest trace old new came =
    (parts : Parts) × HasParts o.machine.ffa o.source manifest parts
    × CountsTrace (begun_by o.machine.processors (first_of parts)) trace old new came

-- a trace was counted to its end, or as far as its lines are good, or could be read; or there is no machine for it, and nothing was
abbrev pub CountsFor : PlayOptions → (manifest trace : Option (List ℕ)) → Tally → Tally → Result (Unit {0}) Failure → Type 0
CountsFor o manifest trace old new (Ok done) = IsCounted o manifest trace old new (Ok done)
CountsFor o manifest trace old new (Err (failure.BadLine n fault)) = IsCounted o manifest trace old new (Err (play_error.BadLine n))
CountsFor o manifest trace old new (Err (failure.Read path)) = (new ≡ old) ⊎ IsCounted o manifest trace old new (Err play_error.Read)
CountsFor o manifest trace old new (Err failure.NoMemory) = ⊤
CountsFor o manifest trace old new (Err other) = new ≡ old

-- a trace is lines, of which so many are guards
abbrev pub HasGuards : (trace : Option (List ℕ)) → ℕ → Type 0
HasGuards trace guards =
    (lines : List (List ℕ)) × IsAll trace (joined lines) × (list_all has_no_feed lines ≡ true)
    × (guards ≡ guards_among lines)

-- a command was done, on whichever machine; a test comes to plays, which are commands of their own, and a trace in words is
-- printed by none of this
abbrev pub IsDone : Request → Ran → Type 0
IsDone (request.Play o) ran = Played o ran (λ task start. IsDoneBy task start ran.streams)
IsDone (request.Check manifest ffa verbose) ran = IsChecked ffa ran.manifest ran.streams.held ran.streams.holds
IsDone (request.Layout manifest regions ffa verbose) ran = IsLaidOut ffa regions ran.manifest ran.streams.held ran.streams.holds
IsDone (request.Descriptor path words) ran =
    IsSaidFor path words ran.manifest ran.streams.held ran.streams.holds
IsDone (request.Generate o) ran = IsMade o ran.manifest ran.streams.held ran.streams.holds
IsDone (request.Test o) ran = IsQuiet ran
IsDone (request.Lower trace verbose) ran = IsQuiet ran

-- a command's play stopped at line n
abbrev pub StopsAt : Request → Ran → ℕ → Type 0
StopsAt (request.Play o) ran n = Played o ran (λ task start. StopsBy task start ran.streams n)
StopsAt other ran n = ⊥

-- a line of a trace that could be opened is bad
abbrev pub SomeBadLine : Request → Ran → Type 0
SomeBadLine request ran = (ran.is_open ≡ true) × ((n : ℕ) × StopsAt request ran n)

-- a comparison found another text
abbrev pub Differs : Request → Ran → Type 0
Differs (request.Play o) ran = Played o ran (λ task start. DiffersBy task start ran.streams.trace)
Differs other ran = ⊥

-- a play has a guard that isn't met, in line n
abbrev pub UnmetAt : Request → Ran → ℕ → Type 0
UnmetAt (request.Play o) ran n = Played o ran (λ task start. UnmetBy task start ran.streams n)
UnmetAt other ran n = ⊥

-- a guard of a trace that could be opened isn't met
abbrev pub SomeUnmetGuard : Request → Ran → Type 0
SomeUnmetGuard request ran = (ran.is_open ≡ true) × ((n : ℕ) × UnmetAt request ran n)

-- what the words ask for can't be had: the words of a descriptor say none, or no bytes say what they do; which is no
-- answer to any other command
abbrev pub IsUnsaid : Request → Ran → Type 0
IsUnsaid (request.Descriptor path words) ran =
    (own : Described) × AreWords path ran.manifest words own
    × (((fault : WordsFault) × IsMisread own fault) ⊎ ((cause : Unfit) × IsUnfit own cause))
IsUnsaid other ran = ⊥

-- the manifest is refused, and nothing was written
abbrev pub SomeRefusal : Request → Ran → Type 0
SomeRefusal request ran = SomeCause (ffa_of request) ran.manifest × IsQuiet ran

-- WHAT PRIVATE FUNCTIONS PROMISE ONE ANOTHER: a reader, a writer and memory may always fail

-- the machine of a source isn't known: where a manifest is named, that can't be read, or is refused
abbrev pub FailsToName : Ffa → Source → (manifest : Option (List ℕ)) → Failure → Type 0
FailsToName ffa source.BuiltIn manifest failure = ⊥
FailsToName ffa (source.File path) manifest failure = FailsUnplayed ffa manifest None None failure

-- a command fails: a manifest is refused for its own cause, and then nothing was written, or a play stops, or a text
-- differs, or the output can't be written, and then the manifest, where one is named, isn't refused.
-- Each failure has its row, so that a new failure must get a promise. In tables with a row for all others,
-- constructors have the name of their module (`request.Play`). Without it a misspelt constructor would be a variable.
abbrev pub FailsFor : Request → Ran → Failure → Type 0
FailsFor request ran (failure.Manifest cause) =
    (needs_manifest request ≡ true) × IsRefused (ffa_of request) ran.manifest cause × IsQuiet ran
FailsFor request ran (failure.BadLine n fault) = StopsAt request ran n
FailsFor request ran (failure.Read path) = ⊤
FailsFor request ran failure.Write = needs_manifest request ≡ true → IsAccepted (ffa_of request) ran.manifest
FailsFor request ran failure.NoMemory = ⊤
FailsFor request ran failure.Differs = Differs request ran
FailsFor request ran (failure.Unmet n) = UnmetAt request ran n
FailsFor request ran (failure.Words fault) = IsUnsaid request ran × IsQuiet ran
FailsFor request ran (failure.Unfit cause) = IsUnsaid request ran × IsQuiet ran

-- a bad line, and a guard, stands in a trace that could be opened
abbrev pub IsRead : Bool → Failure → Type 0
IsRead is_open (failure.BadLine n fault) = is_open ≡ true
IsRead is_open (failure.Unmet n) = is_open ≡ true
IsRead is_open other = ⊤

-- a command is done, or fails
pub record Does (request : Request) (ran : Ran) (result : Result (Unit {0}) Failure) : Type 0 where
  pub done : OnOk result (IsDone request ran)
  pub opened : OnOk result (needs_trace request ≡ true → ran.is_open ≡ true)
  pub failed : IfErr result (FailsFor request ran)
  pub read : IfErr result (IsRead ran.is_open)
