-- SPDX-License-Identifier: MIT OR Apache-2.0
use Rattle.std.proofs.Common.{◌≡◌, replicate, None}
use Rattle.arrayvec.specs.ArrayVec.{array_vec_len}
use Rattle.ffa_rxtx.specs.Stored.{list_of}
use Rattle.ffa_rxtx.proofs.buffers.Buffers.none.Given as goal

-- the endpoints so far
abbrev pub invariant-loop-place : goal.invariant-loop-place
invariant-loop-place l = record {
  count : array_vec_len l.entries ≡ l._place;
  entries : list_of l.entries.items ≡ replicate l._place None;
}
