-- SPDX-License-Identifier: MIT OR Apache-2.0
use Rattle.play_trace.proofs.DigitsRead.{none_above}
use Rattle.play_trace.proofs.line_text.digits_of.Goals as goal

pub returns-then-value-digits-eq0-clause-enough : goal.returns-then-value-digits-eq0-clause-enough
returns-then-value-digits-eq0-clause-enough c = none_above c.args.value c.loop-digits.digits c.if-value-digits-eq0.true
