-- SPDX-License-Identifier: MIT OR Apache-2.0
use Rattle.std.proofs.Common.{◌≡◌, replicate, None}
use Rattle.arrayvec.specs.ArrayVec.{array_vec_len}
use Rattle.ffa_model.specs.First.{first_status}
use Rattle.ffa_model.specs.Lists.{listed}
use Rattle.ffa_schedule.proofs.chain.Chain.first.Given as goal

-- the endpoints so far
abbrev pub invariant-loop-place : goal.invariant-loop-place
invariant-loop-place l = record {
  seen : array_vec_len l.statuses ≡ l.place;
  count : array_vec_len l.works ≡ l.place;
  statuses : l.statuses.items ≡ listed l.place first_status;
  works : l.works.items ≡ replicate l.place None;
}
