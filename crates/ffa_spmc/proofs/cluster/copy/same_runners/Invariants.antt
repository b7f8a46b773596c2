-- SPDX-License-Identifier: MIT OR Apache-2.0
use Rattle.std.proofs.Common.{◌≡◌, take}
use Rattle.ffa_spmc.proofs.cluster.copy.same_runners.Given as goal

-- the processors so far
abbrev pub invariant-loop-runner : goal.invariant-loop-runner
invariant-loop-runner l = l.same.items ≡ take l.runner-index l.runners.items
