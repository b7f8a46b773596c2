-- SPDX-License-Identifier: MIT OR Apache-2.0
use Rattle.std.proofs.Common.{◌≡◌, ℕ, ◌<◌, false}
use Rattle.std.specs.Prelude.{◌&&◌, not}
use Rattle.ffa_model.specs.About.{passes}
use Rattle.ffa_model.specs.SendDescriptor.{send_record}
use Rattle.ffa_rxtx.specs.Parts.{ownership_in}
use Rattle.ffa_stage2.specs.Layout.{normal_in}
use Rattle.ffa_memshare.specs.Ranges.{in_ranges}
use Rattle.ffa_memshare.proofs.reasons.failing.failing_offer.Given as goal

-- no page so far is one that fails
abbrev pub invariant-loop-number : goal.invariant-loop-number
invariant-loop-number g l =
    (k : ℕ) → k < l.number
    → (in_ranges l.layout.base.0 l.offer.ranges.items k && not (passes l.sender.0 (ownership_in l.pages l.layout.base.0) l.buffers (normal_in l.layout) (send_record l.offer) l.refusal k)) ≡ false
