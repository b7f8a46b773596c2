-- SPDX-License-Identifier: MIT OR Apache-2.0
use Rattle.std.proofs.Common.{length}
use Rattle.play_trace.proofs.unfit.+are_all_apart.Given as goal

abbrev pub decreases-are_all_apart : goal.decreases-are_all_apart
decreases-are_all_apart l = length l.ranges.now
