-- SPDX-License-Identifier: MIT OR Apache-2.0
use Rattle.play_trace.specs.TraceLines.{words_of}
use Rattle.play_trace.proofs.LineRegisters.{Reading}
use Rattle.play_trace.proofs.line.registers.Given as goal

abbrev pub invariant-loop-count : goal.invariant-loop-count
invariant-loop-count l = Reading (words_of l.words) (words_of l.rest) l.x l.count
