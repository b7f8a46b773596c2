-- SPDX-License-Identifier: MIT OR Apache-2.0
use Rattle.play_trace.proofs.Digits.{Written}
use Rattle.play_trace.proofs.number.digits.Given as goal

abbrev pub invariant-loop-byte : goal.invariant-loop-byte
invariant-loop-byte l = Written l.word l.number l.byte-index
