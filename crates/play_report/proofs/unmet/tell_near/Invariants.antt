-- SPDX-License-Identifier: MIT OR Apache-2.0
use Rattle.std.proofs.Common.{◌≡◌, ◌++◌, take}
use Rattle.play_report.specs.Guarded.{near_text}
use Rattle.play_report.proofs.unmet.tell_near.Given as goal

abbrev pub invariant-loop-number : goal.invariant-loop-number
invariant-loop-number g l = l.told.items ≡ l.fn.told.items ++ near_text (take l.number-index l.near)
