-- SPDX-License-Identifier: MIT OR Apache-2.0
-- What is played of an operation, and what is written: so many lines of a trace.
use Rattle.std.specs.Prelude.{◌≡◌, ℕ, ◌%◌, ◌^◌, true, List, length, Option, None}
use Rattle.std.specs.Io.KnownBytes.{Appends}
use Rattle.ffa_model.specs.declared.operation.Op.{Op}
use Rattle.ffa_model.specs.declared.operation.Op.TheVariants.{Call, Load, Store, Fetch}
use Rattle.ffa_model.specs.Memory.{size_of}
use Rattle.play_trace.specs.TraceLines.{are_lines, joined}

-- the same operation, where a store has the lowest bytes of its value, as many as it moves
abbrev pub fitted : Op → Op
fitted (Call x) = Call x
fitted (Load addr size) = Load addr size
fitted (Store addr size value) = Store addr size (value % 256 ^ size_of size)
fitted (Fetch addr) = Fetch addr

-- so many lines of a trace of one processor, and nothing else, were written
pub record Wrote (count : ℕ) (held holds : Option (List ℕ)) : Type 0 where
  pub lines : List (List ℕ)
  pub good : are_lines None lines ≡ true
  pub number : length lines ≡ count
  pub written : Appends held holds (joined lines)
