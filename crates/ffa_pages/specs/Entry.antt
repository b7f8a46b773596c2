-- SPDX-License-Identifier: MIT OR Apache-2.0
-- The owners of pages as clauses see them: a list by page, where `None` is a page of the manager.
use Rattle.std.specs.Prelude.{ℕ, List, find, slice_index_or, slice_set, Option, Some, None}
use Rattle.std.specs.Option.{option_map, option_map_or, option_and_then}
use Rattle.ffa_model.specs.declared.endpoint.Endpoint.{Endpoint}
use Rattle.ffa_model.specs.declared.endpoint.Region.{Region}
use Rattle.ffa_model.specs.declared.rights.Rights.{Rights}
use Rattle.ffa_model.specs.Identifiers.{manager}
use Rattle.ffa_model.specs.Regions.{has_page, owned_regions}

-- a page that an endpoint owns, with the place in the pool of the open transaction that names it
pub record Entry : Type 0 where
  pub owner : ℕ
  pub own_right : Rights
  pub slot : Option ℕ

abbrev pub entry_at : List (Option Entry) → ℕ → Option Entry
entry_at table p = slice_index_or table p None

abbrev pub owner_at : List (Option Entry) → ℕ → ℕ
owner_at table p = option_map_or (λ (e : Entry). e.owner) (entry_at table p) manager

abbrev pub own_right_at : List (Option Entry) → ℕ → Option Rights
own_right_at table p = option_map (λ (e : Entry). e.own_right) (entry_at table p)

abbrev pub slot_at : List (Option Entry) → ℕ → Option ℕ
slot_at table p = option_and_then (λ (e : Entry). e.slot) (entry_at table p)

-- the table in which an endpoint owns a page with this right; a transaction that names the page goes on naming it
abbrev pub given : List (Option Entry) → ℕ → ℕ → Rights → List (Option Entry)
given table p owner right =
    slice_set table p (Some (record { owner = owner; own_right = right; slot = slot_at table p }))

-- the table in which the transaction at a place in the pool, or none, names a page
abbrev pub marked : List (Option Entry) → ℕ → Option ℕ → List (Option Entry)
marked table p slot = slice_set table p (option_map (λ (e : Entry). record e { slot = slot }) (entry_at table p))

-- a page of a region belongs to the region's endpoint, with the region's right as its own; all others are the manager's
abbrev pub first_entry : ℕ → List Endpoint → ℕ → Option Entry
first_entry base es p =
    option_map (λ (x : ℕ × Region). record { owner = x.0; own_right = x.1.rights; slot = None })
    (find (λ (x : ℕ × Region). has_page base p x.1) (owned_regions es))
