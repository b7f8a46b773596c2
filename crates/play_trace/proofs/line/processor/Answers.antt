-- SPDX-License-Identifier: MIT OR Apache-2.0
use Rattle.play_trace.proofs.LineActs.{turn_is, no_turn}
use Rattle.play_trace.proofs.line.processor.Goals as goal

pub returns-in-Last : goal.returns-in-Last
returns-in-Last c = let (one, number) = c.in-Last.ensures in turn_is c.args.words.now c.in-Last.processor one number

pub returns-in-More : goal.returns-in-More
returns-in-More c = no_turn c.args.words.now c.read_front.result c.read_front.ensures c.in-More.is
