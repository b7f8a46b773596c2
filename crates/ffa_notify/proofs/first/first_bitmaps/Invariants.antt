-- SPDX-License-Identifier: MIT OR Apache-2.0
use Rattle.std.proofs.Common.{◌≡◌, map, take}
use Rattle.std.specs.List.{enumerate_from}
use Rattle.arrayvec.specs.ArrayVec.{array_vec_len}
use Rattle.ffa_model.specs.First.{has_first_bitmaps}
use Rattle.ffa_notify.proofs.first.first_bitmaps.Given as goal

-- the endpoints so far
abbrev pub invariant-loop-endpoint : goal.invariant-loop-endpoint
invariant-loop-endpoint l = record {
  count : array_vec_len l.has ≡ l.endpoint-index;
  has : l.has.items ≡ map has_first_bitmaps (enumerate_from 0 (take l.endpoint-index l.endpoint-items));
}
