-- SPDX-License-Identifier: MIT OR Apache-2.0
use Rattle.std.proofs.Common.{◌∙◌, ◌++◌, ap}
use Rattle.play_trace.proofs.TextDigits.{rest_of_all}
use Rattle.play_trace.proofs.text.push_digits.Goals as goal

pub returns-clause-items : goal.returns-clause-items
returns-clause-items g c =
    c.push_word.ensures.items ∙ ap (λ l. c.args.text.now.items ++ l) (rest_of_all c.all_digits-all.result c.args.digits c.args.value c.requires.digits c.all_digits-all.ensures)
