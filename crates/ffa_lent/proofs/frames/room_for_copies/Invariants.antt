-- SPDX-License-Identifier: MIT OR Apache-2.0
use Rattle.std.proofs.Common.{◌≡◌, length}
use Rattle.ffa_lent.proofs.frames.room_for_copies.Given as goal

-- the copies so far
abbrev pub invariant-loop-page : goal.invariant-loop-page
invariant-loop-page l = length l.copies.items ≡ l._page
