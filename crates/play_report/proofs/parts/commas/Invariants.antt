-- SPDX-License-Identifier: MIT OR Apache-2.0
use Rattle.std.proofs.Common.{◌≡◌, take, ◌==◌, count_by}
use Rattle.play_report.specs.Members.{comma}
use Rattle.play_report.proofs.parts.commas.Given as goal

abbrev pub invariant-loop-byte : goal.invariant-loop-byte
invariant-loop-byte l = l.count ≡ count_by (λ c. c == comma) (take l.byte-index l.byte-items)
