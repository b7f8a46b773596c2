-- SPDX-License-Identifier: MIT OR Apache-2.0
-- What writing a text leaves.
use Rattle.std.specs.Prelude.{◌≡◌, ◌≤◌, ℕ, List, ◌++◌, length, Option, Result, Ok, Err}
use Rattle.std.specs.Io.KnownBytes.{Appends, Keeps}
use Rattle.play_trace.specs.declared.output.PlayError.{PlayError}
use Rattle.play_trace.specs.declared.output.PlayError.TheVariants.{Read, Write, NoMemory, BadLine}

-- the writer took a beginning of the text, and not all of it
pub record TookFront (held holds : Option (List ℕ)) (text : List ℕ) : Type 0 where
  pub front : List ℕ
  pub rest : List ℕ
  pub whole : text ≡ front ++ rest
  pub more : 1 ≤ length rest
  pub written : Appends held holds front

-- the text was written, or a beginning of it: no other error comes
abbrev pub Writes : {X : Type 0} → Option (List ℕ) → Option (List ℕ) → List ℕ → Result X PlayError → Type 0
Writes held holds text (Ok _) = Appends held holds text
Writes held holds text (Err Write) = TookFront held holds text
Writes held holds text (Err Read) = ⊥
Writes held holds text (Err NoMemory) = ⊥
Writes held holds text (Err (BadLine n)) = ⊥

-- the same of a text for which memory is needed first: where there is none, nothing was written
abbrev pub WritesIfRoom : {X : Type 0} → Option (List ℕ) → Option (List ℕ) → List ℕ → Result X PlayError → Type 0
WritesIfRoom held holds text (Ok _) = Appends held holds text
WritesIfRoom held holds text (Err Write) = TookFront held holds text
WritesIfRoom held holds text (Err NoMemory) = Keeps held holds
WritesIfRoom held holds text (Err Read) = ⊥
WritesIfRoom held holds text (Err (BadLine n)) = ⊥
