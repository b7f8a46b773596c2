-- SPDX-License-Identifier: MIT OR Apache-2.0
use Rattle.std.proofs.Common.{length}
use Rattle.play_trace.proofs.unfit.+first_broken.Given as goal

abbrev pub decreases-first_broken : goal.decreases-first_broken
decreases-first_broken l = length l.conditions.now
