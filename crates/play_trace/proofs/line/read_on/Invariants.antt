-- SPDX-License-Identifier: MIT OR Apache-2.0
use Rattle.std.proofs.Common.{◌<◌, ◌≤◌, ◌-◌, length}
use Rattle.play_trace.specs.Parsed.{AreDigits, GoesOn}
use Rattle.play_trace.proofs.line.read_on.Given as goal

abbrev pub invariant-loop-end : goal.invariant-loop-end
invariant-loop-end l = record {
  digits : AreDigits l.bytes l.number l.end;
  more : GoesOn l.bytes l.end;
  inside : l.end < length l.bytes;
  few : l.end ≤ 16;
}

abbrev pub decreases-loop-end : goal.decreases-loop-end
decreases-loop-end l = 16 - l.end
