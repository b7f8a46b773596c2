-- SPDX-License-Identifier: MIT OR Apache-2.0
-- What is written: lines of a trace that are read as what was meant.
use Rattle.std.specs.Prelude.{◌≡◌, ◌<◌, ℕ, ◌+◌, ◌%◌, ◌^◌, nat_le, if◌then◌else◌, true, List, [], ◌∷◌, ◌++◌, length, Some, ⊤}
use Rattle.ffa_model.specs.declared.operation.Op.{Op}
use Rattle.ffa_model.specs.declared.operation.Op.TheVariants.{Call, Load, Store, Fetch}
use Rattle.ffa_model.specs.declared.operation.Size.{Size}
use Rattle.ffa_model.specs.declared.operation.Size.TheVariants.{B1, B2, B4, B8}
use Rattle.ffa_model.specs.Memory.{size_of}
use Rattle.ffa_model.specs.ResponseBytes.{le}
use Rattle.play_trace.specs.TraceLines.{operate, has_no_feed, line_of, joined}
use Rattle.play_trace.specs.TraceText.{ended}

-- ONE OPERATION

-- a store's value fits its size
abbrev pub IsProper : Op → Type 0
IsProper (Call x) = ⊤
IsProper (Load addr size) = ⊤
IsProper (Store addr size value) = value < 256 ^ size_of size
IsProper (Fetch addr) = ⊤

-- the bytes of a line, without its LF, that is read as this operation
pub record IsLineOf (line : List ℕ) (op : Op) : Type 0 where
  pub single : has_no_feed line ≡ true
  pub read : line_of line ≡ Some (operate op)

-- a text grew by the line of this operation
abbrev pub GrowsBy : Op → List ℕ → List ℕ → Type 0
GrowsBy op old new = (line : List ℕ) × (new ≡ old ++ ended line) × IsLineOf line op

-- STORES

-- the largest size that so many bytes fill
abbrev pub largest : ℕ → Size
largest n = if nat_le 8 n then B8 else if nat_le 4 n then B4 else if nat_le 2 n then B2 else B1

-- a line stores the first of the bytes at an address that is a multiple of their count, and these are the rest
pub record Stored (address : ℕ) (line bytes rest : List ℕ) (size : Size) : Type 0 where
  pub value : ℕ
  pub stores : IsLineOf line (Store address size value)
  pub aligned : address % size_of size ≡ 0
  pub whole : bytes ≡ le (size_of size) value ++ rest
  pub most : size ≡ largest (length bytes)

-- lines store bytes from an address on, one store behind the other
abbrev pub Stores : ℕ → List (List ℕ) → List ℕ → Type 0
Stores address [] bytes = bytes ≡ []
Stores address (line ∷ lines) bytes = (size : Size) × (rest : List ℕ) × Stored address line bytes rest size × Stores (address + size_of size) lines rest

-- a text grew by lines that store bytes from an address on
abbrev pub GrowsByStores : ℕ → List ℕ → List ℕ → List ℕ → Type 0
GrowsByStores address bytes old new = (lines : List (List ℕ)) × (new ≡ old ++ joined lines) × Stores address lines bytes
