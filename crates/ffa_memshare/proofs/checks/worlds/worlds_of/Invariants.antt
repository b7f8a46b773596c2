-- SPDX-License-Identifier: MIT OR Apache-2.0
use Rattle.std.proofs.Common.{◌≡◌, take, length, not}
use Rattle.ffa_model.specs.Regions.{is_normal}
use Rattle.ffa_stage2.specs.Layout.{normal_in}
use Rattle.ffa_memshare.specs.Named.{all_named}
use Rattle.ffa_memshare.specs.Ranges.{in_ranges}
use Rattle.ffa_memshare.proofs.checks.worlds.worlds_of.Given as goal

-- the ranges so far
abbrev pub invariant-loop-place : goal.invariant-loop-place
invariant-loop-place g l = record {
  normal : l.worlds.are_normal ≡ all_named (length l.pages) (in_ranges l.layout.base.0 (take l.place l.ranges)) (is_normal l.layout.base.0 (normal_in l.layout));
  secure : l.worlds.are_secure ≡ all_named (length l.pages) (in_ranges l.layout.base.0 (take l.place l.ranges)) (λ p. not (is_normal l.layout.base.0 (normal_in l.layout) p));
}
