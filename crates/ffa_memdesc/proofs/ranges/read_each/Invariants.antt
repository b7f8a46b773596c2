-- SPDX-License-Identifier: MIT OR Apache-2.0
use Rattle.std.proofs.Common.{◌≡◌, ◌<◌, ℕ, None}
use Rattle.arrayvec.specs.ArrayVec.{array_vec_len}
use Rattle.ffa_model.specs.Lists.{listed}
use Rattle.ffa_memdesc.specs.Reading.{range_after, own_flaw_after}
use Rattle.ffa_memdesc.proofs.ranges.read_each.Given as goal

abbrev pub invariant-loop-i : goal.invariant-loop-i
invariant-loop-i g l =
    (array_vec_len l.ranges ≡ l.i)
    × (l.ranges.items ≡ listed l.i (range_after (g.B.Bytes.bytes l.bytes) l.composite))
    × ((i : ℕ) → i < l.i → None ≡ own_flaw_after (g.B.Bytes.bytes l.bytes) l.composite i)
