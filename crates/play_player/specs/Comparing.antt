-- SPDX-License-Identifier: MIT OR Apache-2.0
-- FOR PROOFS ALONE
-- The steps of a comparison, which private functions promise one another.
use Rattle.std.specs.Prelude.{◌≡◌, ◌≢◌, ◌≤◌, ℕ, ◌+◌, true, List, [], ◌∷◌, ◌++◌, length, Option, None, Some, IfSome, Result, Ok, Err, ⊤}
use Rattle.std.specs.Io.{StopsAt}
use Rattle.std.specs.Io.BufRead.{take_through}
use Rattle.std.specs.Io.KnownBytes.{Consumes}
use Rattle.std.specs.List.{list_all}
use Rattle.play_trace.specs.TraceLines.{feed, has_no_feed, joined}
use Rattle.play_trace.specs.declared.output.PlayError.{PlayError}
use Rattle.play_trace.specs.declared.output.PlayError.TheVariants.{Read, Write, NoMemory, BadLine}
use Rattle.play_player.specs.Compared.{IsFound}
use Rattle.play_player.specs.Reading.{ReadsNoLine}

-- What follows speaks of what was unread of the expected text before and after (`wants`, `has`), and of how many of its
-- lines were read before and after (`old`, `new`).

-- a text is lines, each with its LF
abbrev pub AreRows : List ℕ → Type 0
AreRows text = (rows : List (List ℕ)) × (text ≡ joined rows) × (list_all has_no_feed rows ≡ true)

-- the next line was read, with the LF that ends it, where one does; it is empty where none is left
abbrev pub ReadsRow : {X : Type 0} → Option (List ℕ) → Option (List ℕ) → ℕ → ℕ → List ℕ → Result X PlayError → Type 0
ReadsRow wants has old new row (Ok _) =
    (new ≡ 1 + old) × Consumes wants has row × StopsAt row feed × IfSome wants (λ bytes. row ≡ take_through feed bytes)
ReadsRow wants has old new row (Err Read) = ReadsNoLine wants has
ReadsRow wants has old new row (Err Write) = ⊥
ReadsRow wants has old new row (Err NoMemory) = ⊤
ReadsRow wants has old new row (Err (BadLine n)) = ⊥

-- what was read before the reader failed is a row where LF ends it
abbrev pub EndsRow : {X : Type 0} → List ℕ → Result X PlayError → Type 0
EndsRow row (Ok _) = (line : List ℕ) × (row ≡ line ++ feed ∷ [])
EndsRow row (Err Read) = (line : List ℕ) → row ≢ line ++ feed ∷ []
EndsRow row (Err Write) = ⊥
EndsRow row (Err NoMemory) = ⊥
EndsRow row (Err (BadLine n)) = ⊥

-- the rows `done` of a text were read, and then a row with which the rest doesn't begin
pub record StopsAtRow (wants : Option (List ℕ)) (old new : ℕ) (text wanted : List ℕ) (place : ℕ) : Type 0 where
  pub done : List (List ℕ)
  pub rest : List ℕ
  pub more : Option (List ℕ)
  pub whole : text ≡ joined done ++ rest
  pub each : list_all has_no_feed done ≡ true
  pub alike : Consumes wants more (joined done)
  pub next : IfSome more (λ bytes. wanted ≡ take_through feed bytes)
  pub some : 1 ≤ length rest
  pub other : (line words : List ℕ) → wanted ≡ line ++ feed ∷ [] → rest ≢ wanted ++ words
  pub number : new ≡ 1 + (old + length done)
  pub at : place ≡ length (joined done)

-- the rows of a text were read, or some of them
abbrev pub TakesText : (wants has : Option (List ℕ)) (old new : ℕ) (text wanted : List ℕ) → Result (Option ℕ) PlayError
    → Type 0
TakesText wants has old new text wanted (Ok None) = IsFound wants has old new text
TakesText wants has old new text wanted (Ok (Some place)) = StopsAtRow wants old new text wanted place
TakesText wants has old new text wanted (Err Read) =
    (front rest : List ℕ) × (more : Option (List ℕ)) × (text ≡ front ++ rest) × (1 ≤ length rest)
    × Consumes wants more front × ReadsNoLine more has
TakesText wants has old new text wanted (Err Write) = ⊥
TakesText wants has old new text wanted (Err NoMemory) = ⊤
TakesText wants has old new text wanted (Err (BadLine n)) = ⊥
