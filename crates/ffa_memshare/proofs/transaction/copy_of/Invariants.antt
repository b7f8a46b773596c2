-- SPDX-License-Identifier: MIT OR Apache-2.0
use Rattle.std.proofs.Common.{◌≡◌, take}
use Rattle.ffa_memshare.proofs.transaction.copy_of.Given as goal

-- the receivers so far
abbrev pub invariant-loop-receiver : goal.invariant-loop-receiver
invariant-loop-receiver l = l.copy.items ≡ take l.receiver-index l.receivers.items
