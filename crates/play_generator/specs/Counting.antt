-- SPDX-License-Identifier: MIT OR Apache-2.0
-- Where what came of an operation is counted: a row for each call, one for all that is no call, and one for each kind of
-- access; in a row a column for what was done, and one for each error or fault. And where the check is counted at which a call
-- was refused: each row has a place for each check of its call.
use Rattle.std.specs.Prelude.{◌≡◌, ℕ, suc, ◌+◌, ◌-◌, ◌*◌, ◌^◌, ◌==◌, List, [], ◌∷◌, length, map, min, position, slice_index, slice_set, Option, Some, None, if◌then◌else◌}
use Rattle.std.specs.Option.{option_map, option_map_or}
use Rattle.ffa_model.specs.declared.function.TheConstants.{FFA_ERROR}
use Rattle.ffa_model.specs.declared.operation.ErrorCode.{ErrorCode}
use Rattle.ffa_model.specs.declared.operation.ErrorCode.TheVariants.{NotSupported, InvalidParameters, NoMemory, Busy, Denied, NoData}
use Rattle.ffa_model.specs.declared.operation.FaultKind.{FaultKind}
use Rattle.ffa_model.specs.declared.operation.FaultKind.TheVariants.{Translation, Permission, Alignment, AccessFlag, OutsideRam}
use Rattle.ffa_model.specs.declared.operation.Op.{Op}
use Rattle.ffa_model.specs.declared.operation.Op.TheVariants.{Call, Load, Store, Fetch}
use Rattle.ffa_model.specs.declared.operation.Outcome.{Outcome}
use Rattle.ffa_model.specs.declared.operation.Outcome.TheVariants.{Regs, Data, Done, Fault}
use Rattle.ffa_model.specs.Calls.{code_number}
use Rattle.ffa_model.specs.declared.refusal.Refusal.{Refusal}
use Rattle.ffa_model.specs.declared.why.Why.{Why}
use Rattle.ffa_model.specs.declared.why.Why.TheVariants as whys
use Rattle.ffa_model.specs.Registers.{low}
use Rattle.ffa_model.specs.Rows.{place_in_rows, rows}
use Rattle.play_reasons.specs.Checks.{number_of}
use Rattle.play_generator.specs.declared.counts.AccessKind.{AccessKind}
use Rattle.play_generator.specs.declared.counts.AccessKind.TheVariants.{Load as LoadAccess, Store as StoreAccess, Fetch as FetchAccess}

-- ROWS

-- a call's row is its place among the calls; what is no call has the row behind them
abbrev pub row_of_access : AccessKind → ℕ
row_of_access LoadAccess = length rows + 1
row_of_access StoreAccess = length rows + 2
row_of_access FetchAccess = length rows + 3

abbrev pub row_of_operation : Op → ℕ
row_of_operation (Call x) = place_in_rows (low (slice_index x 0))
row_of_operation (Load addr size) = row_of_access LoadAccess
row_of_operation (Store addr size value) = row_of_access StoreAccess
row_of_operation (Fetch addr) = row_of_access FetchAccess

-- COLUMNS

abbrev pub column_of_error : ErrorCode → ℕ
column_of_error NotSupported = 1
column_of_error InvalidParameters = 2
column_of_error NoMemory = 3
column_of_error Busy = 4
column_of_error Denied = 5
column_of_error NoData = 6

abbrev pub column_of_fault : FaultKind → ℕ
column_of_fault Translation = 1
column_of_fault Permission = 2
column_of_fault Alignment = 3
column_of_fault AccessFlag = 4
column_of_fault OutsideRam = 5

-- the numbers of the errors in the order of their columns
abbrev pub error_numbers : List ℕ
error_numbers = map code_number (NotSupported ∷ InvalidParameters ∷ NoMemory ∷ Busy ∷ Denied ∷ NoData ∷ [])

-- FFA_VERSION's refusal, in w0
abbrev pub no_version : ℕ
no_version = 0xFFFFFFFF

-- of what the next runner sees: FFA_ERROR with a number in w2, FFA_VERSION's refusal, which counts as NOT_SUPPORTED, or what is done
unfoldable pub column_of_registers : List ℕ → ℕ
column_of_registers x =
    if slice_index x 0 == FFA_ERROR then option_map_or suc (position (λ number. slice_index x 2 == number) error_numbers) 0
    else if slice_index x 0 == no_version then column_of_error NotSupported
    else 0

abbrev pub column_of : Outcome → ℕ
column_of (Regs runner x) = column_of_registers x
column_of (Data value) = 0
column_of Done = 0
column_of (Fault fault) = column_of_fault fault

-- CELLS

-- where the count of a row and a column stands
abbrev pub cell : ℕ → ℕ → ℕ
cell row column = 7 * row + column

-- one count grows by one, but for one that is the highest, and all others stay
abbrev pub one_more : ℕ → List ℕ → List ℕ
one_more at counts = slice_set counts at (min (slice_index counts at + 1) (2 ^ 64 - 1))

abbrev pub CountsOne : ℕ → List ℕ → List ℕ → Type 0
CountsOne at old new = new ≡ one_more at old

-- CHECKS

-- where the count of a row's check stands, which is counted from 1
abbrev pub check_cell : ℕ → ℕ → ℕ
check_cell row number = 16 * row + number - 1

-- where the count of an operation's check stands, if that is one of the call's
abbrev pub check_cell_of : Op → Refusal → Option ℕ
check_cell_of (Call x) refusal = option_map (check_cell (place_in_rows (low (slice_index x 0)))) (number_of (low (slice_index x 0)) refusal)
check_cell_of (Load addr size) refusal = None
check_cell_of (Store addr size value) refusal = None
check_cell_of (Fetch addr) refusal = None

-- the same of an operation that is refused for this reason, or isn't refused
abbrev pub check_of : Op → Option Why → Option ℕ
check_of op (Some (whys.Refused refusal about)) = check_cell_of op refusal
check_of op (Some (whys.Fault kind obstacle)) = None
check_of op None = None

-- one count grows by one, or none where there is none
abbrev pub one_more_in : Option ℕ → List ℕ → List ℕ
one_more_in (Some at) counts = one_more at counts
one_more_in None counts = counts

abbrev pub CountsCheck : Option ℕ → List ℕ → List ℕ → Type 0
CountsCheck at old new = new ≡ one_more_in at old

-- WHAT IS COUNTED

-- the counts of calls and accesses, and those of checks
pub record Tally : Type 0 where
  pub cells : List ℕ
  pub checks : List ℕ

-- an operation counts by what comes of it and why it is refused, if it is
abbrev pub count_one : Op → Outcome → Option Why → Tally → Tally
count_one op outcome why t = record {
  cells = one_more (cell (row_of_operation op) (column_of outcome)) t.cells;
  checks = one_more_in (check_of op why) t.checks;
}
