-- SPDX-License-Identifier: MIT OR Apache-2.0
use Rattle.std.proofs.Common.{◌∙◌, ap, arith}
use Rattle.play_trace.specs.TraceText.{digit}
use Rattle.play_trace.proofs.TextDigits.{pair_high, pair_low, digit_high, digit_low}
use Rattle.play_trace.proofs.text.two_digits.Goals as goal

pub returns-clause-high : goal.returns-clause-high
returns-clause-high c = pair_high _ (omega arith) ∙ ap digit (digit_high c.args.value c.args.place)

pub returns-clause-low : goal.returns-clause-low
returns-clause-low c = pair_low _ (omega arith) ∙ ap digit (digit_low c.args.value c.args.place)
