-- SPDX-License-Identifier: MIT OR Apache-2.0
-- The region that another one meets.
use Rattle.std.specs.Prelude.{◌≡◌, ◌≤◌, ℕ, List, length, Some, false, slice_get, ⊤}
use Rattle.std.specs.Option.{option_map_or}
use Rattle.ffa_model.specs.declared.endpoint.Region.{Region}
use Rattle.ffa_model.specs.declared.endpoint.Endpoint.{Endpoint}
use Rattle.ffa_model.specs.Identifiers.{place}
use Rattle.ffa_model.specs.Manifest.{is_apart}
use Rattle.ffa_manifest.specs.declared.refusal.Found.{Found}
use Rattle.ffa_manifest.specs.declared.refusal.Found.TheVariants.{Overlap}
use Rattle.ffa_manifest.specs.declared.refusal.MetRegion.{MetRegion}

-- the regions of one of these endpoints, by its place, or of the one behind them
abbrev pub regions_at : List Endpoint → List Region → ℕ → List Region
regions_at before own index = option_map_or (λ (e : Endpoint). e.regions.items) (slice_get before index) own

-- a region that was read before has a page of this one, and stands where it is told to
pub record Meets (before : List Endpoint) (own : List Region) (r : Region) (met : MetRegion) : Type 0 where
  pub known : place met.endpoint.0 ≤ length before
  pub stands : slice_get (regions_at before own (place met.endpoint.0)) met.place ≡ Some met.region
  pub shared : is_apart r met.region ≡ false

-- where a region is told to meet another one, they have a page in common
abbrev pub SharesPage : Found → Type 0
SharesPage (Overlap r met) = is_apart r met.region ≡ false
SharesPage other = ⊤
