-- SPDX-License-Identifier: MIT OR Apache-2.0
use Rattle.std.proofs.Common.{sym, subst}
use Rattle.play_trace.specs.Parsed.{IsStored}
use Rattle.play_trace.proofs.LineCommands.{no_size_stored, none_stored}
use Rattle.play_trace.proofs.line.size_and_value.Goals as goal

pub returns-in_err-size : goal.returns-in_err-size
returns-in_err-size c = subst (IsStored c.args.word.now) (sym c.from_residual.ensures) (no_size_stored c.args.word.now c.in_err-size.ensures)

pub returns-in-More : goal.returns-in-More
returns-in-More c = none_stored c.args.word.now c.read_front.result c.read_front.ensures c.in-More.is
