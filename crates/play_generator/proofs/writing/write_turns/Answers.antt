-- SPDX-License-Identifier: MIT OR Apache-2.0
use Rattle.std.proofs.Common.{arith, rules}
use Rattle.play_generator.proofs.Growing.{wrote_first, wrote_next}
use Rattle.play_generator.proofs.writing.write_turns.Goals as goal

pub loop-left-init : goal.loop-left-init
loop-left-init g c = (wrote_first _ _, omega arith)

pub loop-left-preserved : goal.loop-left-preserved
loop-left-preserved g c =
    let i = c.loop-left.invariant in
    (wrote_next _ _ _ _ _ _ i.1 c.in_ok-left.ensures.few i.0 c.in_ok-left.ensures.lines, omega (arith, i.1))

pub returns : goal.returns
returns g c = search rules
