-- SPDX-License-Identifier: MIT OR Apache-2.0
use Rattle.std.proofs.Common.{◌+◌, ◌++◌, ◌∙◌, take, drop, ap}
use Rattle.play_trace.proofs.text.put_register.Goals as goal

pub returns-else-value-lt4294967296 : goal.returns-else-value-lt4294967296
returns-else-value-lt4294967296 c =
    c.put_word-else-value-lt4294967296.ensures ∙ ap (λ w. take c.args.place c.args.line.now ++ w ++ drop (c.args.place + 17) c.args.line.now) c.register_word.ensures
