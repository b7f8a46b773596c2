-- SPDX-License-Identifier: MIT OR Apache-2.0
use Rattle.std.proofs.Common.{◌≡◌, ℕ, ◌<◌, false}
use Rattle.std.specs.Prelude.{◌&&◌}
use Rattle.ffa_model.specs.Regions.{is_normal}
use Rattle.ffa_stage2.specs.Layout.{normal_in}
use Rattle.ffa_memshare.specs.Ranges.{in_ranges}
use Rattle.ffa_memshare.proofs.reasons.failing.are_secure.Given as goal

-- no page so far is one of the ranges and non-secure
abbrev pub invariant-loop-number : goal.invariant-loop-number
invariant-loop-number g l =
    (k : ℕ) → k < l.number → (in_ranges l.layout.base.0 l.ranges k && is_normal l.layout.base.0 (normal_in l.layout) k) ≡ false
