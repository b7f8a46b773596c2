-- SPDX-License-Identifier: MIT OR Apache-2.0
-- FOR PROOFS ALONE
-- Words as the player reads them.
use Rattle.std.specs.Prelude.{◌≡◌, ◌≢◌, ℕ, ◌^◌, ◌<◌, ◌≤◌, ◌==◌, false, List, [], ◌∷◌, ◌++◌, length, take, get_or, fold, codes, unwrap_or, Option, Some, None}
use Rattle.ffa_model.specs.declared.operation.Size.{Size}
use Rattle.play_trace.specs.TraceLines as trace
use Rattle.play_trace.specs.declared.line.Front.{Front}
use Rattle.play_trace.specs.declared.line.Front.TheVariants.{Last, More, Other}

-- the value of a byte as a hexadecimal digit, and for any other byte more than digits have
abbrev pub value_of : ℕ → ℕ
value_of b = unwrap_or (trace.digit_value b) (2 ^ 32)

abbrev pub value_at : List ℕ → ℕ → ℕ
value_at bytes place = value_of (get_or bytes place 0)

-- so many bytes at the front are digits, and write this number
pub record AreDigits (bytes : List ℕ) (number end : ℕ) : Type 0 where
  pub inside : end ≤ length bytes
  pub so_far : fold trace.with_digit (Some 0) (take end bytes) ≡ Some number
  pub fits : number < 16 ^ end
  pub digits : (k : ℕ) → k < end → (get_or bytes k 0 == trace.space) ≡ false

-- where digits stand at the front, their word goes on behind them
pub record GoesOn (bytes : List ℕ) (end : ℕ) : Type 0 where
  pub inside : 1 ≤ end → end < length bytes
  pub no_space : 1 ≤ end → (get_or bytes end 0 == trace.space) ≡ false

-- what the first word of these bytes is: all of them, a word before others, or none that is a number
abbrev pub IsFront : List ℕ → Front → Type 0
IsFront bytes (Last number) = (trace.words_of bytes ≡ bytes ∷ []) × (trace.number_of bytes ≡ Some number)
IsFront bytes (More number rest) =
    (word : List ℕ) × (trace.words_of bytes ≡ word ∷ trace.words_of rest.now) × (trace.number_of word ≡ Some number)
IsFront bytes Other =
    (word : List ℕ) × (words : List (List ℕ)) × (trace.words_of bytes ≡ word ∷ words) × (trace.number_of word ≡ None)

-- the value that a store's last word writes, with its size, where all bytes are that word
abbrev pub IsStored : List ℕ → Option (Size × ℕ) → Type 0
IsStored bytes (Some (size, value)) =
    (trace.words_of bytes ≡ bytes ∷ []) × (trace.size_written bytes ≡ Some size) × (trace.number_of bytes ≡ Some value)
IsStored bytes None = (word : List ℕ) → trace.store_of (word ∷ trace.words_of bytes) ≡ None

-- a line of none of the commands that most lines have
pub record IsOther (bytes : List ℕ) : Type 0 where
  pub some : bytes ≢ []
  pub no_comment : (rest : List ℕ) → bytes ≢ trace.hash ∷ rest
  pub no_call : (words : List ℕ) → bytes ≢ codes "call " ++ words
  pub no_load : (words : List ℕ) → bytes ≢ codes "load " ++ words
  pub no_store : (words : List ℕ) → bytes ≢ codes "store " ++ words
