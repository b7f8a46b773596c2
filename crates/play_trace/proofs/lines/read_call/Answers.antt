-- SPDX-License-Identifier: MIT OR Apache-2.0
use Rattle.std.proofs.Common.{◌∙◌, sym}
use Rattle.play_trace.proofs.LineCommands.{call_line}
use Rattle.play_trace.proofs.lines.read_call.Goals as goal

pub returns-then-registers : goal.returns-then-registers
returns-then-registers c = c.if-registers.ensures ∙ sym (call_line c.args.words.now)

pub returns-else-registers : goal.returns-else-registers
returns-else-registers c = c.if-registers.ensures ∙ sym (call_line c.args.words.now)
