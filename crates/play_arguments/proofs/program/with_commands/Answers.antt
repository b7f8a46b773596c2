-- SPDX-License-Identifier: MIT OR Apache-2.0
use Rattle.std.proofs.Common.{◌∙◌}
use Rattle.play_arguments.proofs.Tables.{one_more}
use Rattle.play_arguments.proofs.program.with_commands.Goals as goal

pub loop-entry-preserved : goal.loop-entry-preserved
loop-entry-preserved c =
    one_more _ _ _ c.args.entries.now c.loop-entry.entry-index _ c.loop-entry-test.true c.in_ok-program-2.ensures c.in_ok-command.ensures.local c.in_ok-command.ensures.app
    ∙ c.loop-entry.invariant
