-- SPDX-License-Identifier: MIT OR Apache-2.0
use Rattle.std.proofs.Common.{◌∙◌, ◌||◌}
use Rattle.play_arguments.proofs.Tables.{one_more_word}
use Rattle.play_arguments.proofs.program.with_words.Goals as goal

pub loop-word-preserved : goal.loop-word-preserved
loop-word-preserved c =
    record {
      app =
          one_more_word _ _ _ c.args.words.now c.loop-word.word-index _ c.loop-word-test.true c.in_ok-command.ensures c.arg.ensures.local c.arg.ensures.rule
          ∙ c.loop-word.invariant.app;
      local = c.in_ok-command.ensures.globals ∙ (λ t. c.loop-word.invariant.local t || c.arg.ensures.local t);
    }
