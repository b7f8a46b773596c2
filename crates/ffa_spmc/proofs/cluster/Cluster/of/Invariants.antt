-- SPDX-License-Identifier: MIT OR Apache-2.0
use Rattle.std.proofs.Common.{◌≡◌, replicate}
use Rattle.arrayvec.specs.ArrayVec.{array_vec_len}
use Rattle.ffa_spmc.proofs.Clusters.{nobody}
use Rattle.ffa_spmc.proofs.cluster.Cluster.of.Given as goal

-- the processors so far
abbrev pub invariant-loop-processor : goal.invariant-loop-processor
invariant-loop-processor g l = record {
  count : array_vec_len l.runners ≡ l._processor;
  items : l.runners.items ≡ replicate l._processor nobody;
}
