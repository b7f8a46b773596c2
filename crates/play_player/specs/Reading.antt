-- SPDX-License-Identifier: MIT OR Apache-2.0
-- What reading a line leaves.
use Rattle.std.specs.Prelude.{◌≡◌, ◌≢◌, ◌≤◌, ◌⊎◌, ℕ, ◌+◌, Bool, true, false, List, [], ◌∷◌, ◌++◌, length, Option, None, Some, Result, Ok, Err, ⊤}
use Rattle.std.specs.Io.KnownBytes.{Consumes, IsAtEnd}
use Rattle.play_trace.specs.TraceLines.{feed, has_no_feed, is_good, line_in}
use Rattle.play_trace.specs.Lines.{meant}
use Rattle.play_trace.specs.declared.lines.Line.{Line}
use Rattle.play_trace.specs.declared.output.PlayError.{PlayError}
use Rattle.play_trace.specs.declared.output.PlayError.TheVariants.{Read, Write, NoMemory, BadLine}

-- these are all the bytes, where those are known
abbrev pub IsAll : Option (List ℕ) → List ℕ → Type 0
IsAll None all = ⊤
IsAll (Some bytes) all = bytes ≡ all

-- no line was read whole, by what was unread in the reader before and after: of what was read no byte is an LF
abbrev pub ReadsNoLine : Option (List ℕ) → Option (List ℕ) → Type 0
ReadsNoLine had has = (begun : List ℕ) × Consumes had has begun × (has_no_feed begun ≡ true)

-- A line was read, by what was unread in the reader before and after. There is one, and its LF was read too; or the
-- reader was at its end; or a rest was left that no LF ends, which has this number; or the reader failed.
abbrev pub ReadsLine : Option (List ℕ) → Option (List ℕ) → List ℕ → ℕ → Result Bool PlayError → Type 0
ReadsLine had has line number (Ok true) = Consumes had has (line ++ feed ∷ []) × (has_no_feed line ≡ true)
ReadsLine had has line number (Ok false) = IsAtEnd had
ReadsLine had has line number (Err (BadLine n)) =
    (n ≡ number) × IsAll had line × (has_no_feed line ≡ true) × (1 ≤ length line)
ReadsLine had has line number (Err Read) = ReadsNoLine had has
ReadsLine had has line number (Err NoMemory) = ⊤
ReadsLine had has line number (Err Write) = ⊥

-- the LF at the end was taken off, or there is none
abbrev pub TakesFeed : List ℕ → List ℕ → ℕ → Result Bool PlayError → Type 0
TakesFeed old new number (Ok true) = old ≡ new ++ feed ∷ []
TakesFeed old new number (Ok false) = ⊥
TakesFeed old new number (Err (BadLine n)) =
    (n ≡ number) × (new ≡ old) × ((front : List ℕ) × (last : ℕ) × (old ≡ front ++ last ∷ []) × (last ≢ feed))
TakesFeed old new number (Err Read) = length old ≡ 0
TakesFeed old new number (Err NoMemory) = ⊤
TakesFeed old new number (Err Write) = ⊥

-- the same of what was read before the reader failed: no LF ends it, or it is a line
abbrev pub TakesWhole : List ℕ → List ℕ → Result Bool PlayError → Type 0
TakesWhole old new (Ok true) = old ≡ new ++ feed ∷ []
TakesWhole old new (Ok false) = ⊥
TakesWhole old new (Err Read) =
    (length old ≡ 0) ⊎ ((front : List ℕ) × (last : ℕ) × (old ≡ front ++ last ∷ []) × (last ≢ feed))
TakesWhole old new (Err NoMemory) = ⊥
TakesWhole old new (Err Write) = ⊥
TakesWhole old new (Err (BadLine n)) = ⊥

-- what is unread begins with these bytes, which are a line that is none of a trace of so many processors, and its LF; or
-- they are all of it, and no LF ends them
abbrev pub IsBadLine : Option ℕ → Option (List ℕ) → List ℕ → Type 0
IsBadLine processors left bytes =
    ((bad : List ℕ) × (rest : Option (List ℕ)) × (bytes ≡ bad ++ feed ∷ []) × (has_no_feed bad ≡ true)
    × (is_good processors bad ≡ false) × Consumes left rest bytes)
    ⊎ ((has_no_feed bytes ≡ true) × (1 ≤ length bytes) × IsAll left bytes)

-- A line of a trace of so many processors was read and is taken, and these are its bytes without its LF; or the reader was at
-- its end; or a bad line was read, which has this number, and these are its bytes; or no line could be read.
abbrev pub TakesLine : Option ℕ → Option (List ℕ) → Option (List ℕ) → List ℕ → ℕ → Result (Option Line) PlayError → Type 0
TakesLine processors had has bytes number (Ok None) = IsAtEnd had
TakesLine processors had has bytes number (Ok (Some line)) =
    Consumes had has (bytes ++ feed ∷ []) × (has_no_feed bytes ≡ true) × (Some (meant line) ≡ line_in processors bytes)
TakesLine processors had has bytes number (Err (BadLine n)) = (n ≡ number) × IsBadLine processors had bytes
TakesLine processors had has bytes number (Err Read) = ReadsNoLine had has
TakesLine processors had has bytes number (Err NoMemory) = ⊤
TakesLine processors had has bytes number (Err Write) = ⊥

-- The line that has this number was read and taken, and the next has the next; or the reader was at its end; or a bad
-- line was read, or none can be.
abbrev pub TakesNext : Option ℕ → ℕ → ℕ → Option (List ℕ) → Option (List ℕ) → List ℕ
    → Result (Option (ℕ × Line)) PlayError → Type 0
TakesNext processors number next had has bytes (Ok None) =
    (next ≡ number) × TakesLine processors had has bytes number (Ok None)
TakesNext processors number next had has bytes (Ok (Some (its, line))) =
    (its ≡ number) × (next ≡ 1 + number) × TakesLine processors had has bytes number (Ok (Some line))
TakesNext processors number next had has bytes (Err e) = TakesLine processors had has bytes number (Err e)
