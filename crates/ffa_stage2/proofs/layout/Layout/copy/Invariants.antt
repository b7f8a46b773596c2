-- SPDX-License-Identifier: MIT OR Apache-2.0
use Rattle.std.proofs.Common.{◌≡◌, take}
use Rattle.ffa_stage2.proofs.layout.Layout.copy.Given as goal

-- the endpoints' regions so far
abbrev pub invariant-loop-own : goal.invariant-loop-own
invariant-loop-own l = l.regions.items ≡ take l.own-index l.self.regions.items
