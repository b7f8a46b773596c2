-- SPDX-License-Identifier: MIT OR Apache-2.0
use Rattle.std.proofs.Common.{◌≡◌, drop}
use Rattle.clap.specs.Words.{app_of}
use Rattle.play_arguments.specs.Commands.{bare}
use Rattle.play_arguments.specs.Tables.{with_commands}
use Rattle.play_arguments.proofs.program.with_commands.Given as goal

-- the program so far with the commands that are left is that with all of them
abbrev pub invariant-loop-entry : goal.invariant-loop-entry
invariant-loop-entry l = with_commands (drop l.entry-index l.entries) (app_of l.program) ≡ with_commands l.entries bare
