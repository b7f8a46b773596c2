-- SPDX-License-Identifier: MIT OR Apache-2.0
-- What the standard calls the functions and the error codes that registers hold (DEN0077A, 11 to 16).
use Rattle.std.specs.Prelude.{ℕ, ◌==◌, List, [], ◌∷◌, Option, None, codes, find, slice_index, if◌then◌else◌}
use Rattle.std.specs.Option.{option_map, option_or}
use Rattle.ffa_model.specs.declared.function.TheConstants.{FFA_ERROR, FFA_INTERRUPT, FFA_SUCCESS, FFA_MEM_RETRIEVE_RESP, FFA_SUCCESS_64}
use Rattle.ffa_model.specs.declared.operation.ErrorCode.TheVariants.{NotSupported, InvalidParameters, NoMemory, Busy, Denied, NoData}
use Rattle.ffa_model.specs.Calls.{code_number}
use Rattle.ffa_model.specs.Registers.{low}
use Rattle.ffa_model.specs.Rows.{row_of}

-- a number, and its name
abbrev pub Row : Type 0
Row = ℕ × List ℕ

-- what a caller sees, and is no call, by the identifier; the success of a 64-bit call may be of that form too
abbrev pub answer_names : List Row
answer_names =
    (FFA_ERROR, codes "FFA_ERROR")
    ∷ (FFA_SUCCESS, codes "FFA_SUCCESS")
    ∷ (FFA_SUCCESS_64, codes "FFA_SUCCESS")
    ∷ (FFA_INTERRUPT, codes "FFA_INTERRUPT")
    ∷ (FFA_MEM_RETRIEVE_RESP, codes "FFA_MEM_RETRIEVE_RESP")
    ∷ []

-- why a call is refused, by the number that stands in w2, which is 32 bits of two's complement (DEN0077A, 11.2)
abbrev pub error_names : List Row
error_names =
    (code_number NotSupported, codes "NOT_SUPPORTED")
    ∷ (code_number InvalidParameters, codes "INVALID_PARAMETERS")
    ∷ (code_number NoMemory, codes "NO_MEMORY")
    ∷ (code_number Busy, codes "BUSY")
    ∷ (0xFFFFFFFB, codes "INTERRUPTED")
    ∷ (code_number Denied, codes "DENIED")
    ∷ (0xFFFFFFF9, codes "RETRY")
    ∷ (0xFFFFFFF8, codes "ABORTED")
    ∷ (code_number NoData, codes "NO_DATA")
    ∷ []

-- the name in the first row that has the number
abbrev pub name_in : List Row → ℕ → Option (List ℕ)
name_in rows number = option_map (λ row. row.1) (find (λ row. row.0 == number) rows)

-- the name of the function that the low half of x0 identifies
unfoldable pub call_name_of : List ℕ → Option (List ℕ)
call_name_of x =
    option_or (option_map (λ row. row.name) (row_of (low (slice_index x 0)))) (name_in answer_names (low (slice_index x 0)))

-- the name of the code of an FFA_ERROR: of any other call w2 is no code
unfoldable pub error_name_of : List ℕ → Option (List ℕ)
error_name_of x = if low (slice_index x 0) == FFA_ERROR then name_in error_names (low (slice_index x 2)) else None
