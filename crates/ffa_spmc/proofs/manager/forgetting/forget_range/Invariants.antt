-- SPDX-License-Identifier: MIT OR Apache-2.0
use Rattle.std.proofs.Common.{◌≤◌}
use Rattle.ffa_memshare.specs.Ranges.{first_page}
use Rattle.ffa_memshare.proofs.Places.{between}
use Rattle.ffa_spmc.specs.Caching.{AreOut}
use Rattle.ffa_spmc.proofs.manager.forgetting.forget_range.Given as goal

-- the pages so far
abbrev pub invariant-loop-page : goal.invariant-loop-page
invariant-loop-page g l = record {
  from : first_page l.fn.base.0 l.range ≤ l.page;
  out : AreOut (g.T.Translations.entries l.fn.cache) (g.T.Translations.entries l.cache) l.endpoint.0 (between (first_page l.fn.base.0 l.range) l.page);
}
