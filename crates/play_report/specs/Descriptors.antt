-- SPDX-License-Identifier: MIT OR Apache-2.0
-- What printing a descriptor leaves.
use denote.Ref.{Bor}
use Rattle.std.specs.Prelude.{◌≡◌, ◌⊎◌, ℕ, true, is_some, List, [], Option, None, Some, Ok, Err, ⊤}
use Rattle.std.specs.Io.KnownBytes.{Appends, Keeps}
use Rattle.play_trace.specs.declared.unfit.Unfit.{Unfit}
use Rattle.ffa_model.specs.declared.manifest.Ffa.TheVariants.{V1_2}
use Rattle.ffa_model.specs.declared.operation.Op.TheVariants.{Call}
use Rattle.play_trace.specs.Script.{GrowsBy}
use Rattle.play_trace.specs.Written.{GrowsByDescriptor, reclaim_with, unfit_of}
use Rattle.play_arguments.specs.Commands.{Described, words_of}
use Rattle.play_arguments.specs.declared.command_line.DescriptorWords.{DescriptorWords}
use Rattle.play_report.specs.Told.{asked}
use Rattle.play_report.specs.Versions.{versioned}
use Rattle.play_report.specs.declared.fault.WordsFault.{WordsFault}
use Rattle.play_report.specs.declared.told.Asked.{Asked}
use Rattle.play_report.specs.declared.told.Asked.TheVariants.{Descriptor, Reclaim}
use Rattle.ffa_manifest.specs.Document.{Parts}
use Rattle.play_report.specs.Manifests.{Describes, FailsUnplayed}
use Rattle.play_report.specs.declared.failure.Failure.{Failure}
use Rattle.play_report.specs.declared.failure.Failure.TheVariants as failure

-- a text grew by the lines that write a descriptor into TX and make its call, or by that of a reclaim
abbrev pub Grows : Asked → (old new : List ℕ) → Type 0
Grows (Descriptor said) old new = GrowsByDescriptor said.version said.descriptor said.tx.0 old new
Grows (Reclaim said) old new = GrowsBy (Call (reclaim_with said)) old new

-- why no bytes say it
abbrev pub unfit_asked : Asked → Option Unfit
unfit_asked (Descriptor said) = unfit_of said.descriptor
unfit_asked (Reclaim said) = None

-- the lines of what is asked for were written
abbrev pub IsTold : Asked → (held holds : Option (List ℕ)) → Type 0
IsTold said held holds = (text : List ℕ) × Grows said [] text × Appends held holds text

-- these words ask for it, and its lines were written
abbrev pub IsSaid : Described → (held holds : Option (List ℕ)) → Type 0
IsSaid words held holds = (said : Asked) × (asked words ≡ Ok said) × IsTold said held holds

-- the words can't be read, for this fault
abbrev pub IsMisread : Described → WordsFault → Type 0
IsMisread words fault = asked words ≡ Err fault

-- no bytes are a descriptor that says what the words do: this condition is the first that it breaks
abbrev pub IsUnfit : Described → Unfit → Type 0
IsUnfit words cause = (said : Asked) × (asked words ≡ Ok said) × (unfit_asked said ≡ Some cause)

-- a descriptor isn't printed: its words say none, or no bytes say what they do, and then nothing was written, or the
-- output can't be written, or there is no memory
abbrev pub FailsToSay : Described → (held holds : Option (List ℕ)) → Failure → Type 0
FailsToSay words held holds (failure.Words fault) = IsMisread words fault × Keeps held holds
FailsToSay words held holds (failure.Unfit cause) = IsUnfit words cause × Keeps held holds
FailsToSay words held holds failure.Write = ⊤
FailsToSay words held holds failure.NoMemory = ⊤
FailsToSay words held holds other = ⊥

-- these are the words of a command, in the form that the caller has by the manifest of a machine of FF-A 1.2, where one is named
abbrev pub AreWords : Option (Bor (List ℕ)) → (manifest : Option (List ℕ)) → DescriptorWords → Described → Type 0
AreWords None manifest words own = own ≡ words_of words
AreWords (Some path) manifest words own =
    (parts : Parts) × Describes V1_2 manifest parts × (own ≡ versioned parts.endpoints (words_of words))

-- they ask for it, and its lines were written
abbrev pub IsSaidFor : Option (Bor (List ℕ)) → DescriptorWords → (manifest held holds : Option (List ℕ)) → Type 0
IsSaidFor path words manifest held holds = (own : Described) × AreWords path manifest words own × IsSaid own held holds

-- they aren't printed, or the manifest that is named can't be read, or is refused, and then nothing was written
abbrev pub FailsToSayFor : Option (Bor (List ℕ)) → DescriptorWords → (manifest held holds : Option (List ℕ)) → Failure → Type 0
FailsToSayFor path words manifest held holds failure =
    ((own : Described) × AreWords path manifest words own × FailsToSay own held holds failure)
    ⊎ ((is_some path ≡ true) × FailsUnplayed V1_2 manifest None None failure × Keeps held holds)
