-- SPDX-License-Identifier: MIT OR Apache-2.0
use Rattle.std.proofs.Common.{◌≡◌, vec_len}
use Rattle.ffa_recorded.proofs.recorded.room_for.Given as goal

-- the places so far
abbrev pub invariant-loop-step : goal.invariant-loop-step
invariant-loop-step l = vec_len l.places ≡ l._step
