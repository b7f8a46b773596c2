-- SPDX-License-Identifier: MIT OR Apache-2.0
use Rattle.std.proofs.Common.{◌≡◌, ℕ, ◌+◌, ◌*◌, ◌++◌, List, take, length}
use Rattle.std.specs.List.{flat_map}
use Rattle.ffa_model.specs.ResponseBytes.{range_bytes}
use Rattle.ffa_memdesc.specs.Writing.{Wrote}
use Rattle.ffa_memdesc.proofs.parts.write_ranges.Given as goal

abbrev pub invariant-loop-i : goal.invariant-loop-i
invariant-loop-i l =
    (length l.out ≡ length l.fn.out)
    × ((old front : List ℕ) → Wrote old front l.at l.fn.out → Wrote old (front ++ flat_map range_bytes (take l.i l.ranges)) (l.at + 16 * l.i) l.out)
