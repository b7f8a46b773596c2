-- SPDX-License-Identifier: MIT OR Apache-2.0
-- The pages of regions.
use Rattle.std.specs.Prelude.{ℕ, zero, suc, ◌+◌, ◌*◌, Bool, false, ◌&&◌, nat_le, nat_lt, List, [], ◌∷◌, map, find, Option, Some, None, is_some}
use Rattle.std.specs.List.{enumerate_from, flat_map}
use Rattle.ffa_model.specs.Numbers.{PageIndex}
use Rattle.ffa_model.specs.Identifiers.{manager, identifier}
use Rattle.std.specs.Option.{option_map, option_map_or}
use Rattle.ffa_model.specs.declared.endpoint.Region.{Region}
use Rattle.ffa_model.specs.declared.endpoint.Endpoint.{Endpoint}
use Rattle.ffa_model.specs.declared.manifest.Ffa.{Ffa}
use Rattle.ffa_model.specs.declared.manifest.Ffa.TheVariants.{V1_1, V1_2}
use Rattle.ffa_model.specs.declared.rights.Rights.{Rights}

-- whether page p of the RAM at an address is one of the region's
abbrev pub has_page : ℕ → PageIndex → Region → Bool
has_page base p region =
    nat_le region.base (base + 4096 * p) && nat_lt (base + 4096 * p) (region.base + 4096 * region.pages)

-- the right that a list of regions gives to a page
abbrev pub right_in : ℕ → List Region → PageIndex → Option Rights
right_in base rs p = option_map (λ (r : Region). r.rights) (find (has_page base p) rs)

-- the regions of the endpoint at a place, and those of nobody past the end
abbrev pub regions_at : List Endpoint → ℕ → List Region
regions_at [] i = []
regions_at (e ∷ es) zero = e.regions.items
regions_at (e ∷ es) (suc i) = regions_at es i

-- the regions, each with its owner
abbrev pub owned_regions : List Endpoint → List (ℕ × Region)
owned_regions es =
    flat_map (λ (x : ℕ × Endpoint). map (λ (r : Region). (identifier x.0, r)) x.1.regions.items) (enumerate_from 0 es)

-- the owner of a page: the endpoint of the region that has it, or the manager
abbrev pub owner_in : ℕ → List Endpoint → PageIndex → ℕ
owner_in base es p =
    option_map_or (λ (x : ℕ × Region). x.0) (find (λ (x : ℕ × Region). has_page base p x.1) (owned_regions es)) manager

-- each endpoint's regions, in the endpoints' order
abbrev pub regions_of_each : List Endpoint → List (List Region)
regions_of_each es = map (λ (e : Endpoint). e.regions.items) es

-- where worlds are told apart, the regions of non-secure memory: these, which are the normal world's
abbrev pub normal_of : Ffa → List Region → Option (List Region)
normal_of V1_1 rs = None
normal_of V1_2 rs = Some rs

-- whether a page is non-secure, where worlds are told apart
abbrev pub is_normal : ℕ → Option (List Region) → PageIndex → Bool
is_normal base None p = false
is_normal base (Some rs) p = is_some (right_in base rs p)
