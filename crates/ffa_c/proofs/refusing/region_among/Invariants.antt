-- SPDX-License-Identifier: MIT OR Apache-2.0
use Rattle.std.proofs.Common.{◌≡◌, drop}
use Rattle.ffa_c.specs.Refusing.{region_from}
use Rattle.ffa_c.proofs.refusing.region_among.Given as goal

-- the region in those that are left, counted from there, is that in all
abbrev pub invariant-loop-index : goal.invariant-loop-index
invariant-loop-index l = region_from l.index (drop l.index l.regions) ≡ region_from 0 l.regions
