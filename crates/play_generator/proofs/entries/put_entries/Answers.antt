-- SPDX-License-Identifier: MIT OR Apache-2.0
use Rattle.std.proofs.Common.{arith}
use Rattle.play_generator.proofs.Growing.{grows_none, grows_entry}
use Rattle.play_generator.proofs.entries.put_entries.Goals as goal

pub loop-count-init : goal.loop-count-init
loop-count-init g c = (grows_none _, omega arith)

pub loop-count-preserved : goal.loop-count-preserved
loop-count-preserved g c =
    (grows_entry _ _ _ _ _ _ (omega arith) c.loop-count.invariant.0 c.in_ok-put_entry.ensures, omega (arith, c.loop-count-test.true))
