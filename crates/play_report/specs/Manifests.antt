-- SPDX-License-Identifier: MIT OR Apache-2.0
-- Which bytes are a machine's manifest, and how commands fail that want one alone.
use denote.Ref.{Bor}
use Rattle.std.specs.Prelude.{◌≡◌, ◌⊎◌, ℕ, Bool, List, IsUtf8, Option, None, Some, Ok, Err, codes, option_map, ⊤}
use Rattle.std.specs.Io.KnownBytes.{Appends, Keeps}
use Rattle.ffa_model.specs.declared.manifest.Ffa.{Ffa}
use Rattle.play_trace.specs.TraceText.{ended}
use Rattle.ffa_manifest.specs.Document.{Parts, machine_of}
use Rattle.ffa_manifest.specs.declared.error.ManifestError.{ManifestError}
use Rattle.ffa_manifest.specs.declared.error.ManifestError.TheVariants.{Toml}
use Rattle.play_report.specs.Layouts.{whole_text}
use Rattle.play_report.specs.declared.failure.Failure.{Failure}
use Rattle.play_report.specs.declared.failure.Failure.TheVariants as failure

-- the bytes of a file, if it could be read
abbrev pub bytes_of : Option (Bor (List ℕ)) → Option (List ℕ)
bytes_of file = option_map (λ bytes. bytes.now) file

-- the bytes of a file that could be read are the text of a manifest, of a machine that serves this version of FF-A
abbrev pub Describes : Ffa → Option (List ℕ) → Parts → Type 0
Describes ffa None m = ⊥
Describes ffa (Some bytes) m = IsUtf8 bytes × (machine_of ffa bytes ≡ Ok m)

-- they aren't, for this cause
abbrev pub IsRefused : Ffa → Option (List ℕ) → ManifestError → Type 0
IsRefused ffa None cause = ⊥
IsRefused ffa (Some bytes) cause =
    ((IsUtf8 bytes → ⊥) × (cause ≡ Toml)) ⊎ (IsUtf8 bytes × (machine_of ffa bytes ≡ Err cause))

-- they are, of some machine
abbrev pub IsAccepted : Ffa → Option (List ℕ) → Type 0
IsAccepted ffa manifest = (parts : Parts) × Describes ffa manifest parts

abbrev pub SomeCause : Ffa → Option (List ℕ) → Type 0
SomeCause ffa manifest = (cause : ManifestError) × IsRefused ffa manifest cause

-- a text is refused for its own cause, or there is no memory
abbrev pub FailsToRead : Ffa → (text : List ℕ) → Failure → Type 0
FailsToRead ffa text (failure.Manifest cause) = machine_of ffa text ≡ Err cause
FailsToRead ffa text failure.NoMemory = ⊤
FailsToRead ffa text other = ⊥

-- it was written that the manifest is accepted, which it is
abbrev pub IsChecked : Ffa → (manifest held holds : Option (List ℕ)) → Type 0
IsChecked ffa manifest held holds = (parts : Parts) × Describes ffa manifest parts × Appends held holds (ended (codes "accepted"))

-- it was written where the tables of the manifest's machine stand, and where that is asked for where its regions lie
abbrev pub IsLaidOut : Ffa → (regions : Bool) → (manifest held holds : Option (List ℕ)) → Type 0
IsLaidOut ffa regions manifest held holds =
    (parts : Parts) × Describes ffa manifest parts × Appends held holds (whole_text regions parts)

-- a command that plays no trace fails: its manifest is refused for its own cause, and then nothing was written, or the
-- output can't be written, and then the manifest isn't refused; a reader, a writer and memory may always fail
abbrev pub FailsUnplayed : Ffa → (manifest held holds : Option (List ℕ)) → Failure → Type 0
FailsUnplayed ffa manifest held holds (failure.Manifest cause) = IsRefused ffa manifest cause × Keeps held holds
FailsUnplayed ffa manifest held holds (failure.Read path) = ⊤
FailsUnplayed ffa manifest held holds failure.Write = IsAccepted ffa manifest
FailsUnplayed ffa manifest held holds failure.NoMemory = ⊤
FailsUnplayed ffa manifest held holds other = ⊥
