-- SPDX-License-Identifier: MIT OR Apache-2.0
use Rattle.std.proofs.Common.{◌≡◌, take}
use Rattle.ffa_memshare.proofs.copy.sends_of.Given as goal

-- the counts so far
abbrev pub invariant-loop-sends : goal.invariant-loop-sends
invariant-loop-sends l = l.copy.items ≡ take l.sends-index l.sent.items
