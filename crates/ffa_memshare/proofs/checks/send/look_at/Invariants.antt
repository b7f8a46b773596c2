-- SPDX-License-Identifier: MIT OR Apache-2.0
use Rattle.std.proofs.Common.{◌≡◌, take, length}
use Rattle.ffa_model.specs.MemorySend.{is_sendable}
use Rattle.ffa_model.specs.Rights.{may_store}
use Rattle.ffa_pages.specs.Entry.{own_right_at}
use Rattle.ffa_rxtx.specs.Parts.{ownership_in}
use Rattle.ffa_memshare.specs.Named.{all_named}
use Rattle.ffa_memshare.specs.Ranges.{in_ranges}
use Rattle.ffa_memshare.proofs.checks.send.look_at.Given as goal

-- the ranges so far
abbrev pub invariant-loop-place : goal.invariant-loop-place
invariant-loop-place g l = record {
  sendable : l.looked.is_sendable ≡ all_named (length l.pages) (in_ranges l.base.0 (take l.place l.ranges)) (is_sendable l.sender.0 (ownership_in l.pages l.base.0) l.buffers);
  writable : l.looked.is_writable ≡ all_named (length l.pages) (in_ranges l.base.0 (take l.place l.ranges)) (λ p. may_store (own_right_at l.pages p));
}
