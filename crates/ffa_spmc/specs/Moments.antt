-- SPDX-License-Identifier: MIT OR Apache-2.0
-- FOR PROOFS ALONE
-- What holds at each step of an operation, where others walk the tables meanwhile.
use Rattle.std.specs.Prelude.{List, length}
use Rattle.ffa_model.specs.Agreement.{blocks_of}
use Rattle.ffa_model.specs.Ram.{Ram}
use Rattle.ffa_model.specs.State.{State}
use Rattle.ffa_physmem.specs.Moments.{Only, Past, Step}
use Rattle.ffa_stage2.specs.Mixed.{AreMixed}
use Rattle.ffa_stage2.specs.Moments.{EndsSettled, IsInOrder, WalksBetween, WalksSameIn, WritesUnreached}

-- Behind the step, and at every address, the walks of all endpoints' tables give what they gave in the old RAM or nothing, or all
-- give what they give in the new one or nothing. A descriptor that changes goes by way of nothing where it has to. Where an endpoint's
-- walks to the pages of a block give the same in both RAMs, each word of its tables for that block stays. And pages but those of tables
-- change only where no walk leads that isn't there both before and behind.
pub record IsSafeStep (s : State) (old new : Ram) (h : List Step) (step : Step) : Type 0 where
  pub walks : WalksBetween old new (length s.parties) s.tables (blocks_of s) step.after
  pub order : IsInOrder old (length s.parties) s.tables (blocks_of s) (WalksSameIn old new s.tables (blocks_of s)) h step
  pub unreached : WritesUnreached old new (length s.parties) s.tables (blocks_of s) h step

-- where the tables were at rest: each endpoint's walks in mixtures give what they give in either, or a translation fault, and
-- pages but those of tables change only while no translation unit may hold a way there
unfoldable pub IsMixed : State → Ram → Ram → Past → Past → Type 0
IsMixed s old new past later = AreMixed old new (length s.parties) s.tables (blocks_of s) past later

-- Each step on the way from one history to a later one is such a one. And at its end, where an endpoint's walk led to a page and
-- leads there no more, the page was settled in the endpoint's tables, and no table has changed since then.
-- And so it is of walks in mixtures.
pub record AreMoments (s : State) (old new : Ram) (past later : Past) : Type 0 where
  pub steps : Only past later (λ h step. IsSafeStep s old new h step)
  pub ended : EndsSettled old new (length s.parties) s.tables (blocks_of s) later
  pub mixtures : IsMixed s old new past later
