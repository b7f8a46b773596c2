-- SPDX-License-Identifier: MIT OR Apache-2.0
-- FOR PROOFS ALONE
-- The steps of a session, which private functions promise one another.
use Rattle.std.specs.Prelude.{◌≡◌, ◌<◌, ◌^◌, ℕ, ◌+◌, Bool, true, false, List, [], ◌∷◌, ◌++◌, Option, Result, Ok, Err, ⊤}
use Rattle.std.specs.Io.KnownBytes.{Appends, Consumes, Keeps}
use Rattle.ffa_playable.specs.Bench.{Bench, processors_of}
use Rattle.play_trace.specs.TraceLines.{feed, is_good}
use Rattle.play_trace.specs.TraceText.{after}
use Rattle.play_trace.specs.Output.{TookFront}
use Rattle.play_trace.specs.declared.output.PlayError.{PlayError}
use Rattle.play_trace.specs.declared.output.PlayError.TheVariants.{Read, Write, NoMemory, BadLine}
use Rattle.play_player.specs.declared.form.Form.{Form}
use Rattle.play_player.specs.Forms.{text_of_in}
use Rattle.play_player.specs.Reading.{IsAll, ReadsNoLine}
use Rattle.play_player.specs.Sessions.{is_heard, IsOver, TellsOf, ToldOf, ToldOfLine, ToldOfRest}

-- a line of this number was read, which leaves a number for the next; or what was left ends a session
abbrev pub HearsLine : Option (List ℕ) → Option (List ℕ) → List ℕ → ℕ → Result Bool PlayError → Type 0
HearsLine had has line number (Ok true) =
    Consumes had has (line ++ feed ∷ []) × (is_heard line ≡ true) × (number + 1 < 2 ^ 64)
HearsLine had has line number (Ok false) = IsOver had
HearsLine had has line number (Err Read) = ReadsNoLine had has
HearsLine had has line number (Err NoMemory) = ⊤
HearsLine had has line number (Err Write) = ⊥
HearsLine had has line number (Err (BadLine n)) = ⊥

-- a line was done and its text was written, or a beginning of it; or it is bad, and prints nothing
abbrev pub AnswersLine : {X : Type 0} → Form → Bench → Bench → ℕ → List ℕ → (held holds : Option (List ℕ))
    → Result X PlayError → Type 0
AnswersLine form start now number line held holds (Ok _) =
    (now ≡ after start line) × Appends held holds (text_of_in form number start line)
AnswersLine form start now number line held holds (Err Write) =
    (now ≡ after start line) × (is_good (processors_of start) line ≡ true)
    × TookFront held holds (text_of_in form number start line)
AnswersLine form start now number line held holds (Err NoMemory) = ⊤
AnswersLine form start now number line held holds (Err Read) = ⊥
AnswersLine form start now number line held holds (Err (BadLine n)) = ⊥

-- What follows speaks of a trace of so many processors, and of what `told` held before, and holds.

-- where a line is bad was told, or a front of that, where the writer failed; without memory nothing was
abbrev pub TellsBadLine : {X : Type 0} → Option ℕ → ℕ → List ℕ → (held holds : Option (List ℕ)) → Result X PlayError → Type 0
TellsBadLine processors number bytes held holds (Ok _) =
    (text : List ℕ) × TellsOf processors number bytes text × Appends held holds text
TellsBadLine processors number bytes held holds (Err Write) =
    (text : List ℕ) × TellsOf processors number bytes text × TookFront held holds text
TellsBadLine processors number bytes held holds (Err NoMemory) = Keeps held holds
TellsBadLine processors number bytes held holds (Err Read) = ⊥
TellsBadLine processors number bytes held holds (Err (BadLine n)) = ⊥

-- the same, where what can't be told is lost
abbrev pub TellsOrLoses : {X : Type 0} → Option ℕ → ℕ → List ℕ → (held holds : Option (List ℕ)) → Result X PlayError → Type 0
TellsOrLoses processors number bytes held holds (Ok _) =
    (said : List ℕ) × ToldOf processors number bytes said × Appends held holds said
TellsOrLoses processors number bytes held holds (Err NoMemory) = Keeps held holds
TellsOrLoses processors number bytes held holds (Err Write) = ⊥
TellsOrLoses processors number bytes held holds (Err Read) = ⊥
TellsOrLoses processors number bytes held holds (Err (BadLine n)) = ⊥

-- the rest was told, if a rest was left that no LF ends, and nothing else
abbrev pub HearsTelling : Option ℕ → Option (List ℕ) → ℕ → (held holds : Option (List ℕ)) → Result Bool PlayError → Type 0
HearsTelling processors had number held holds (Ok true) = Keeps held holds
HearsTelling processors had number held holds (Ok false) =
    (rest said : List ℕ) × IsAll had rest × ToldOfRest processors number rest said × Appends held holds said
HearsTelling processors had number held holds (Err e) = Keeps held holds

-- a bad line was told, and a good one wasn't
abbrev pub AnswersTelling : {X : Type 0} → Option ℕ → List ℕ → ℕ → (held holds : Option (List ℕ)) → Result X PlayError → Type 0
AnswersTelling processors bytes number held holds (Ok _) =
    (said : List ℕ) × ToldOfLine processors number bytes said × Appends held holds said
AnswersTelling processors bytes number held holds (Err e) = Keeps held holds
