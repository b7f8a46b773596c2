-- SPDX-License-Identifier: MIT OR Apache-2.0
use Rattle.std.proofs.Common.{◌∙◌, sym}
use Rattle.play_trace.proofs.LineCommands.{fetch_line}
use Rattle.play_trace.proofs.lines.read_fetch.Goals as goal

pub returns-in-Some : goal.returns-in-Some
returns-in-Some c = c.in-Some.ensures ∙ sym (fetch_line c.args.words.now)

pub returns-in-None : goal.returns-in-None
returns-in-None c = c.in-None.ensures ∙ sym (fetch_line c.args.words.now)
