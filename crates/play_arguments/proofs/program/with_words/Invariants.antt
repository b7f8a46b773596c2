-- SPDX-License-Identifier: MIT OR Apache-2.0
use Rattle.std.proofs.Common.{◌≡◌, false, drop}
use Rattle.clap.specs.Words.{app_of}
use Rattle.clap.specs.declared.builder.command.Command.TheViews.{out-Command}
use Rattle.play_arguments.specs.Tables.{with_words}
use Rattle.play_arguments.proofs.program.with_words.Given as goal

-- the command so far with the words that are left is that with all of them
abbrev pub invariant-loop-word : goal.invariant-loop-word
invariant-loop-word l = record {
  app : with_words (drop l.word-index l.words) (app_of l.command) ≡ with_words l.words (app_of l.fn.command);
  local : (out-Command l.command).has_globals ≡ false;
}
