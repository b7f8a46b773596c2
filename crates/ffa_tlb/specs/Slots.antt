-- SPDX-License-Identifier: MIT OR Apache-2.0
-- The slots of a cache.
use Rattle.std.specs.Prelude.{ℕ, Bool, true, false, ◌&&◌, List, [], ◌∷◌, map, Option, None, Some, is_none, if◌then◌else◌, filter_map}
use Rattle.ffa_tlb.specs.declared.translations.Entry.{Entry}
use Rattle.ffa_tlb.specs.Lookups.{is_pair, lookup}

-- what contracts see of a cache: its slots, each empty or with an entry, and the policy that picks among them
pub record Slotted (P : Type 0) : Type 0 where
  pub slots : List (Option Entry)
  pub policy : P

-- the entries that stand in slots
abbrev pub entries_of : List (Option Entry) → List Entry
entries_of slots = filter_map (λ slot. slot) slots

-- whether no page of an endpoint has two entries
abbrev pub is_distinct : List Entry → Bool
is_distinct [] = true
is_distinct (entry ∷ entries) = is_none (lookup entries entry.endpoint.0 entry.page.0) && is_distinct entries

-- whether a slot has an entry for a page of an endpoint
abbrev pub holds : ℕ → ℕ → Option Entry → Bool
holds e p None = false
holds e p (Some entry) = is_pair entry.endpoint.0 entry.page.0 e p

-- the slots with those emptied that have an entry for a page of an endpoint
abbrev pub without : List (Option Entry) → ℕ → ℕ → List (Option Entry)
without slots e p = map (λ slot. if holds e p slot then None else slot) slots
