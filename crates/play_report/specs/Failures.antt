-- SPDX-License-Identifier: MIT OR Apache-2.0
-- Why a command isn't done.
use Rattle.std.specs.Prelude.{◌≡◌, ℕ, Option, ⊤}
use Rattle.play_trace.specs.declared.output.PlayError.{PlayError}
use Rattle.play_trace.specs.declared.output.PlayError.TheVariants as play_error
use Rattle.play_report.specs.declared.failure.Failure.{Failure}
use Rattle.play_report.specs.declared.failure.LineFlaw.{LineFlaw}
use Rattle.play_report.specs.declared.failure.Failure.TheVariants as failure

-- the status with which the program ends
abbrev pub status_of : Failure → ℕ
status_of (failure.Manifest cause) = 1
status_of (failure.BadLine n fault) = 2
status_of (failure.Read path) = 3
status_of failure.Write = 3
status_of failure.NoMemory = 3
status_of failure.Differs = 4
status_of (failure.Unmet n) = 5
status_of (failure.Words fault) = 64
status_of (failure.Unfit cause) = 64

-- the output can't be written, or there is no memory
abbrev pub IsShort : Failure → Type 0
IsShort failure.Write = ⊤
IsShort failure.NoMemory = ⊤
IsShort other = ⊥

-- a difference was found, and was told, or wasn't since the output can't be written, or there is no memory
abbrev pub IsDifference : Failure → Type 0
IsDifference failure.Differs = ⊤
IsDifference failure.Write = ⊤
IsDifference failure.NoMemory = ⊤
IsDifference other = ⊥

-- the failure that a play's error is, with what is wrong with a bad line; `unread` is that of a trace that can't be read
abbrev pub failure_of : Failure → Option LineFlaw → PlayError → Failure
failure_of unread fault play_error.Read = unread
failure_of unread fault play_error.Write = failure.Write
failure_of unread fault play_error.NoMemory = failure.NoMemory
failure_of unread fault (play_error.BadLine n) = failure.BadLine n fault

-- the same, with whatever is wrong with a bad line
abbrev pub StopsFor : Failure → PlayError → Failure → Type 0
StopsFor unread error stopped = (fault : Option LineFlaw) × (stopped ≡ failure_of unread fault error)
