-- SPDX-License-Identifier: MIT OR Apache-2.0
-- FOR PROOFS ALONE
-- Where no record is kept, nothing is said of steps.
use Rattle.std.proofs.Common.{◌≡◌, List, [], None}
use Rattle.std.proofs.lemmas.Option.{none-some}
use Rattle.ffa_model.specs.Ram.{Ram}
use Rattle.ffa_physmem.specs.Moments.{Site, Step, Past, Only, TurnsIn}
use Rattle.ffa_physmem.specs.Work.{Spends, Work}

-- such a past
abbrev pub unrecorded : Site → Past
unrecorded site = record { steps = None; site = site }

-- nobody told where pages lie, and none is in a copy
abbrev pub no_site : Site
no_site = record { places = []; copies = record { first = 0; beneath = [] } }

pub no_steps : {old : Past} {site : Site} {P : List Step → Step → Type 0} → site ≡ old.site → Only old (unrecorded site) P
no_steps same = record { each = λ h none. absurd (none-some h none); site = same }

pub no_turn : (ram : Ram) (site : Site) → TurnsIn ram (unrecorded site)
no_turn ram site h none = absurd (none-some h none)

pub no_spending : {old : Past} (site : Site) (work : Work) → Spends old (unrecorded site) work
no_spending site work = record { each = λ h none. absurd (none-some h none) }
