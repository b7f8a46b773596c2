-- SPDX-License-Identifier: MIT OR Apache-2.0
-- What C sees of that by which an endpoint has its access to a page.
use Rattle.std.specs.Prelude.{ℕ, Option, None, Some}
use Rattle.std.specs.Option.{option_and_then}
use Rattle.ffa_model.specs.Why.{granted}
use Rattle.ffa_model.specs.declared.why.Grant.{Grant}
use Rattle.ffa_model.specs.declared.why.Grant.TheVariants.{Own, Shared, Held}
use Rattle.ffa_c.specs.declared.grants.CGrant.{CGrant}
use Rattle.ffa_c.specs.Boarded.{Boarded}

-- the same as numbers: the handle is 0 where there is none
abbrev pub grant_told : Option Grant → CGrant
grant_told None = record { kind = 0; handle = 0 }
grant_told (Some Own) = record { kind = 1; handle = 0 }
grant_told (Some (Shared handle)) = record { kind = 2; handle = handle }
grant_told (Some (Held handle)) = record { kind = 3; handle = handle }

-- of the machine, if there is one
abbrev pub granted_in : Option Boarded → ℕ → ℕ → Option Grant
granted_in held endpoint page = option_and_then (λ (b : Boarded). granted b.machine.state endpoint page) held
