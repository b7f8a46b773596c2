-- SPDX-License-Identifier: MIT OR Apache-2.0
use Rattle.std.proofs.Common.{take}
use Rattle.ffa_memshare.specs.Ranges.{in_ranges}
use Rattle.ffa_spmc.specs.Caching.{AreOut}
use Rattle.ffa_spmc.proofs.manager.forgetting.forget_ranges.Given as goal

-- the ranges so far
abbrev pub invariant-loop-place : goal.invariant-loop-place
invariant-loop-place g l = AreOut (g.T.Translations.entries l.fn.cache) (g.T.Translations.entries l.cache) l.endpoint.0 (in_ranges l.base.0 (take l.place l.ranges))
