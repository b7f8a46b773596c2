-- SPDX-License-Identifier: MIT OR Apache-2.0
-- What a command leaves, from what its parts do.
use Rattle.std.proofs.Common.{◌≡◌, Bor, true, false, List, ℕ, Option, None, Some, Result, Ok, Err, inl, inr, refl, ap, arith, IfErr, OnOk, is_some, option_map}
use Rattle.ffa_model.specs.declared.manifest.Ffa.{Ffa}
use Rattle.ffa_model.specs.declared.manifest.Ffa.TheVariants.{V1_2}
use Rattle.ffa_manifest.specs.Document.{Parts}
use Rattle.ffa_playable.specs.Bench.{Bench}
use Rattle.play_report.specs.Descriptors.{AreWords, FailsToSay, FailsToSayFor, IsSaidFor}
use Rattle.play_report.specs.Failures.{status_of}
use Rattle.play_report.specs.Manifests.{FailsUnplayed, IsAccepted}
use Rattle.play_report.specs.declared.failure.Failure.{Failure}
use Rattle.play_report.specs.declared.failure.Failure.TheVariants.{Manifest, BadLine, Read, Write, NoMemory, Differs, Unmet, Words, Unfit}
use Rattle.play_arguments.specs.Commands.{Described, path_of}
use Rattle.play_arguments.specs.declared.command_line.DescriptorWords.{DescriptorWords}
use Rattle.play_arguments.specs.declared.command_line.PlayOptions.{PlayOptions}
use Rattle.play_arguments.specs.declared.command_line.Source.{Source}
use Rattle.play_arguments.specs.declared.command_line.Source.TheVariants.{BuiltIn, File}
use Rattle.play_arguments.specs.declared.command_line.Request.{Request}
use Rattle.play_arguments.specs.declared.command_line.Request.TheVariants as request
use Rattle.play_commands.specs.Plays.{KnownTask, PlayFails, Plays, Streams}
use Rattle.play_commands.specs.Starts.{begun_by}
use Rattle.play_commands.specs.Purposes.{IsTaskFor}
use Rattle.play_commands.specs.Performed.{Does, FailsFor, FailsToName, HasParts, IsDone, IsQuiet, IsRead, Played, Ran, SomeBadLine, SomeUnmetGuard, ffa_of, first_of, needs_manifest, needs_trace}

-- COMMANDS THAT PLAY NO TRACE, OR NOT YET

-- a manifest that can't be read, or is refused
pub unread : (request : Request) → needs_manifest request ≡ true → (ran : Ran) → IsQuiet ran → (failure : Failure) → FailsUnplayed (ffa_of request) ran.manifest None None failure
    → Does request ran (Err failure)
unread request needs ran quiet (Manifest cause) (refused, same) = record { done = tt; opened = tt; failed = (needs, refused, quiet); read = tt }
unread request needs ran quiet (Read path) any = record { done = tt; opened = tt; failed = tt; read = tt }
unread request needs ran quiet Write accepted = record { done = tt; opened = tt; failed = λ needed. accepted; read = tt }
unread request needs ran quiet NoMemory any = record { done = tt; opened = tt; failed = tt; read = tt }
unread request needs ran quiet other never = absurd never

-- a command that plays no trace fails
abbrev pub FailsIn : Request → Ran → Result (Unit {0}) Failure → Type 0
FailsIn request ran result = IfErr result (FailsUnplayed (ffa_of request) ran.manifest ran.streams.held ran.streams.holds)

pub unplayed : (request : Request) → needs_manifest request ≡ true → needs_trace request ≡ false → (ran : Ran) (result : Result (Unit {0}) Failure) → OnOk result (IsDone request ran)
    → FailsIn request ran result → Does request ran result
unplayed request needs untraced ran (Ok x) done fails = record { done = done; opened = λ needed. absurd cc; failed = tt; read = tt }
unplayed request needs untraced ran (Err (Manifest cause)) done (refused, same) = record { done = tt; opened = tt; failed = (needs, refused, same); read = tt }
unplayed request needs untraced ran (Err (Read path)) done any = record { done = tt; opened = tt; failed = tt; read = tt }
unplayed request needs untraced ran (Err Write) done accepted = record { done = tt; opened = tt; failed = λ needed. accepted; read = tt }
unplayed request needs untraced ran (Err NoMemory) done any = record { done = tt; opened = tt; failed = tt; read = tt }
unplayed request needs untraced ran (Err other) done never = absurd never

needs_path : (path : Option (Bor (List ℕ))) → is_some path ≡ true → is_some (option_map (λ (s : Bor (List ℕ)). s.now) path) ≡ true
needs_path None named = named
needs_path (Some path) named = refl

accepted_by : (path : Option (Bor (List ℕ))) (manifest : Option (List ℕ)) (words : DescriptorWords) (own : Described) → AreWords path manifest words own
    → is_some (option_map (λ (s : Bor (List ℕ)). s.now) path) ≡ true → IsAccepted V1_2 manifest
accepted_by None manifest words own are needed = absurd cc
accepted_by (Some path) manifest words own (parts, is, same) needed = (parts, is)

undescribed : (path : Option (Bor (List ℕ))) (words : DescriptorWords) (ran : Ran) (own : Described) → AreWords path ran.manifest words own → (failure : Failure) → FailsToSay own ran.streams.held ran.streams.holds failure
    → Does (request.Descriptor path words) ran (Err failure)
undescribed path words ran own are (Words fault) (misread, same) = record { done = tt; opened = tt; failed = ((own, are, inl (fault, misread)), same); read = tt }
undescribed path words ran own are (Unfit cause) (unfit, same) = record { done = tt; opened = tt; failed = ((own, are, inr (cause, unfit)), same); read = tt }
undescribed path words ran own are Write short = record { done = tt; opened = tt; failed = accepted_by path ran.manifest words own are; read = tt }
undescribed path words ran own are NoMemory short = record { done = tt; opened = tt; failed = tt; read = tt }
undescribed path words ran own are other never = absurd never

pub describes : (path : Option (Bor (List ℕ))) (words : DescriptorWords) (ran : Ran) (result : Result (Unit {0}) Failure) → OnOk result (IsSaidFor path words ran.manifest ran.streams.held ran.streams.holds)
    → IfErr result (FailsToSayFor path words ran.manifest ran.streams.held ran.streams.holds) → Does (request.Descriptor path words) ran result
describes path words ran (Ok x) said fails = record { done = said; opened = λ never. absurd cc; failed = tt; read = tt }
describes path words ran (Err failure) said (inl (own, are, fails)) = undescribed path words ran own are failure fails
describes path words ran (Err failure) said (inr (named, fails, same)) = unread (request.Descriptor path words) (needs_path path named) ran same failure fails

-- COMMANDS THAT PLAY A TRACE

-- a machine isn't known
pub unnamed : (o : PlayOptions) (ran : Ran) → IsQuiet ran → (failure : Failure) (source : Source) → o.source ≡ source → FailsToName o.machine.ffa source ran.manifest failure → Does (request.Play o) ran (Err failure)
unnamed o ran quiet failure BuiltIn is never = absurd never
unnamed o ran quiet failure (File path) is fails = unread (request.Play o) (ap (λ source. is_some (path_of source)) is) ran quiet failure fails

accepted : (ffa : Ffa) (source : Source) (manifest : Option (List ℕ)) (parts : Parts) → HasParts ffa source manifest parts → is_some (path_of source) ≡ true → IsAccepted ffa manifest
accepted ffa BuiltIn manifest parts built needed = absurd cc
accepted ffa (File path) manifest parts is needed = (parts, is)

-- the trace could be opened
abbrev pub opened : (manifest : Option (List ℕ)) (expected : Option (Option (List ℕ))) → Streams → Ran
opened manifest expected streams = record { manifest = manifest; is_open = true; expected = expected; streams = streams }

could_read : (failure : Failure) → IsRead true failure
could_read (BadLine n fault) = refl
could_read (Unmet n) = refl
could_read other = tt

module _ (o : PlayOptions) (manifest : Option (List ℕ)) (expected : Option (Option (List ℕ))) (streams : Streams) (parts : Parts) (source : HasParts o.machine.ffa o.source manifest parts) (task : KnownTask) (serves : IsTaskFor o.purpose expected task) where
  abbrev pub begun : Bench
  begun = begun_by o.machine.processors (first_of parts)

  leaving : {L : KnownTask → Bench → Type 0} → L task begun → Played o (opened manifest expected streams) L
  leaving left = record { parts = parts; source = source; task = task; serves = serves; left = left }

  play_fails : (trace : Bor (List ℕ)) (failure : Failure) → PlayFails task trace begun streams failure → FailsFor (request.Play o) (opened manifest expected streams) failure
  play_fails trace (BadLine n fault) stops = leaving stops
  play_fails trace (Read path) any = tt
  play_fails trace Write any = accepted o.machine.ffa o.source manifest parts source
  play_fails trace NoMemory any = tt
  play_fails trace Differs differs = leaving differs
  play_fails trace (Unmet n) unmet = leaving unmet
  play_fails trace other never = absurd never

  pub play_does : (trace : Bor (List ℕ)) (result : Result (Unit {0}) Failure) → Plays task trace begun streams result → Does (request.Play o) (opened manifest expected streams) result
  play_does trace (Ok x) plays = record { done = leaving plays.played; opened = λ needed. refl; failed = tt; read = tt }
  play_does trace (Err failure) plays = record { done = tt; opened = tt; failed = play_fails trace failure plays.failed; read = could_read failure }

-- THE STATUS

module _ (request : Request) (ran : Ran) where
  -- a command that ends with 2 stopped at a bad line
  pub told_bad : (failure : Failure) (status : ℕ) → status ≡ status_of failure → FailsFor request ran failure → IsRead ran.is_open failure → status ≡ 2 → SomeBadLine request ran
  told_bad (BadLine n fault) status told fails read two = (read, (n, fails))
  told_bad other status told fails read two = absurd (omega (arith, told, two))

  -- a command that ends with 5 stopped at a guard
  pub told_unmet : (failure : Failure) (status : ℕ) → status ≡ status_of failure → FailsFor request ran failure → IsRead ran.is_open failure → status ≡ 5 → SomeUnmetGuard request ran
  told_unmet (Unmet n) status told fails read five = (read, (n, fails))
  told_unmet other status told fails read five = absurd (omega (arith, told, five))
