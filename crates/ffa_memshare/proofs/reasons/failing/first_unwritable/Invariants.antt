-- SPDX-License-Identifier: MIT OR Apache-2.0
use Rattle.std.proofs.Common.{◌≡◌, ℕ, ◌<◌, false}
use Rattle.std.specs.Prelude.{◌&&◌, not}
use Rattle.ffa_model.specs.Rights.{may_store}
use Rattle.ffa_pages.specs.Entry.{own_right_at}
use Rattle.ffa_memshare.specs.Ranges.{in_ranges}
use Rattle.ffa_memshare.proofs.reasons.failing.first_unwritable.Given as goal

-- no page so far is one that may not be written
abbrev pub invariant-loop-number : goal.invariant-loop-number
invariant-loop-number g l =
    (k : ℕ) → k < l.number → (in_ranges l.base.0 l.ranges k && not (may_store (own_right_at l.pages k))) ≡ false
