-- SPDX-License-Identifier: MIT OR Apache-2.0
-- The state that RAM and a manifest mean, part by part.
use Rattle.std.proofs.Common.{◌≡◌, ◌∙◌, ℕ, ◌*◌, ◌<◌, ◌≤◌, List, length, map, Option, Some, None, refl, sym, ap, subst, arith, inl, inr}
use Rattle.std.specs.Prelude.{find}
use Rattle.std.specs.Option.{option_and_then, option_map, option_map_or}
use Rattle.std.specs.Ordering.{nat_cmp}
use Rattle.std.specs.FinMap as finite
use Rattle.std.proofs.lemmas.Bool.{cases_lt}
use Rattle.std.proofs.lemmas.List.{get_or_past, length-map}
use Rattle.std.proofs.lemmas.Option.{none-some}
use Rattle.ffa_model.specs.declared.endpoint.Endpoint.{Endpoint}
use Rattle.ffa_model.specs.declared.endpoint.Region.{Region}
use Rattle.ffa_model.specs.Agreement.{blocks_of}
use Rattle.ffa_model.specs.Identifiers.{identifier, manager}
use Rattle.ffa_model.specs.Ram.{page_of}
use Rattle.ffa_model.specs.Regions.{has_page, normal_of, owned_regions, right_in, regions_at}
use Rattle.ffa_model.specs.State.{State, Page, Transaction, owner_of, page_at}
use Rattle.ffa_model.specs.Access.{access, handle_at, is_naming, transaction_at, right_of}
use Rattle.ffa_model.specs.First.{first, party_of, page_with_bytes}
use Rattle.ffa_model.proofs.Listed.{length-listed, get_or-listed, get_or-listed_past}
use Rattle.ffa_model.proofs.Accepted.{accepted}
use Rattle.ffa_model.proofs.Owners.{right-own}
use Rattle.ffa_model.proofs.Handles.{find_none}
use Rattle.ffa_pages.specs.Entry.{Entry, entry_at, first_entry, owner_at}
use Rattle.ffa_stage2.specs.Tables.{IsAside, table_page}
use Rattle.ffa_spmc.specs.Owners.{first_owners}
use Rattle.ffa_spmc.specs.Meaning.{IsManager, Parts, held_page, state_of}
use Rattle.ffa_spmc.specs.Unowned.{IsNoTable}

-- no transaction is open where the map of them is empty
handle-empty : (s : State) (p : ℕ) → s.transactions ≡ finite.empty → handle_at s p ≡ None
handle-empty s p none =
    find_none (λ h. is_naming s p (finite.get s.transactions h)) (finite.keys s.transactions)
    (λ h. ap (is_naming s p) (ap (λ (m : finite.FinMap nat_cmp Transaction). finite.get m h) none ∙ finite.get-empty nat_cmp h))

transaction-empty : (s : State) (p : ℕ) → s.transactions ≡ finite.empty → transaction_at s p ≡ None
transaction-empty s p none = ap (option_and_then (finite.get s.transactions)) (handle-empty s p none)

-- a page that the first owners say, with these bytes
page-first : (base p : ℕ) (es : List Endpoint) (bytes : List ℕ)
    → option_map (λ (e : Entry). let q : Page = record { owner = e.owner; own_right = e.own_right; bytes = bytes } in q) (first_entry base es p) ≡ page_with_bytes base es p bytes
page-first base p es bytes = of (find (λ (x : ℕ × Region). has_page base p x.1) (owned_regions es))
  where
    of : (o : Option (ℕ × Region))
        → option_map (λ (e : Entry). let q : Page = record { owner = e.owner; own_right = e.own_right; bytes = bytes } in q)
        (option_map (λ (x : ℕ × Region). let e : Entry = record { owner = x.0; own_right = x.1.rights; slot = None } in e) o)
        ≡ option_map (λ (x : ℕ × Region). record { owner = x.0; own_right = x.1.rights; bytes = bytes }) o
    of None = refl
    of (Some x) = refl

module _ (x : Parts) where
  abbrev s : State
  s = state_of x

  pub base_is : s.ram_base ≡ x.manifest.ram_base.0
  base_is = refl

  pub parties_are : length s.parties ≡ length x.manifest.endpoints.items
  unfolding first
  parties_are = length-map x.manifest.endpoints.items party_of

  pub parties-listed : map party_of x.manifest.endpoints.items ≡ s.parties
  unfolding first
  parties-listed = refl

  pub normal-listed : normal_of x.manifest.ffa (regions_at x.manifest.endpoints.items 0) ≡ s.normal
  unfolding first
  normal-listed = refl

  pub size_is : length s.pages ≡ length x.ram.pages
  size_is = length-listed (length x.ram.pages) (held_page x.ram x.kept.pages)

  pub page-held : (p : ℕ) → p < length x.ram.pages → page_at s p ≡ held_page x.ram x.kept.pages p
  page-held p lt = get_or-listed (length x.ram.pages) (held_page x.ram x.kept.pages) p None lt

  pub page-past : (p : ℕ) → length x.ram.pages ≤ p → page_at s p ≡ None
  page-past p past = get_or-listed_past (length x.ram.pages) (held_page x.ram x.kept.pages) p None past

  pub access-past : (e p : ℕ) → length x.ram.pages ≤ p → access s e p ≡ None
  access-past e p past = ap (λ (page : Option Page). right_of e page (transaction_at s p)) (page-past p past)

  -- where the owners are the manifest's
  module _ (size : length x.ram.pages ≡ 512 * x.manifest.ram_blocks) (owners : x.kept.pages ≡ first_owners x.manifest) where
    entry-at : (p : ℕ) → p < length x.ram.pages → entry_at x.kept.pages p ≡ first_entry x.manifest.ram_base.0 x.manifest.endpoints.items p
    entry-at p lt =
        ap (λ (owners : List (Option Entry)). entry_at owners p) owners
        ∙ get_or-listed (512 * x.manifest.ram_blocks) (first_entry x.manifest.ram_base.0 x.manifest.endpoints.items) p None (subst (λ (n : ℕ). p < n) size lt)

    pub page-at : (p : ℕ) → p < length x.ram.pages → page_at s p ≡ page_with_bytes x.manifest.ram_base.0 x.manifest.endpoints.items p (page_of x.ram p)
    page-at p lt =
        page-held p lt
        ∙ ap (option_map (λ (e : Entry). let q : Page = record { owner = e.owner; own_right = e.own_right; bytes = page_of x.ram p } in q)) (entry-at p lt)
        ∙ page-first x.manifest.ram_base.0 p x.manifest.endpoints.items (page_of x.ram p)

    -- where besides nothing is open, the access of an endpoint is the right of its own regions
    pub access-first : s.transactions ≡ finite.empty → (i p : ℕ) → p < length x.ram.pages → access s (identifier i) p ≡ right_in x.manifest.ram_base.0 (regions_at x.manifest.endpoints.items i) p
    access-first none i p lt =
        ap (right_of (identifier i) (page_at s p)) (transaction-empty s p none) ∙ ap (λ (page : Option Page). right_of (identifier i) page None) (page-at p lt)
        ∙ right-own x.manifest.ram_base.0 x.manifest.endpoints.items p i (page_of x.ram p) (accepted x.manifest.ram_base.0 x.manifest.tables.0 x.manifest.ram_blocks x.manifest.endpoints.items x.manifest.accepted).apart

  -- of a machine
  module _ (machine : IsManager x) where
    -- owners are kept of each page of RAM
    pub owners-size : length x.kept.pages ≡ length x.ram.pages
    owners-size = machine.owners.size ∙ sym machine.tables.size

    pub entry-past : (p : ℕ) → length x.ram.pages ≤ p → entry_at x.kept.pages p ≡ None
    entry-past p past = get_or_past x.kept.pages p None (subst (λ (n : ℕ). n ≤ p) (sym owners-size) past)

    -- as the state has them
    pub owner-is : (p : ℕ) → owner_of s p ≡ owner_at x.kept.pages p
    owner-is p = elim (cases_lt p (length x.ram.pages)) [
      | inl lt ↦ ap (λ (page : Option Page). option_map_or (λ (q : Page). q.owner) page manager) (page-held p lt) ∙ of (entry_at x.kept.pages p)
      | inr past ↦
          ap (λ (page : Option Page). option_map_or (λ (q : Page). q.owner) page manager) (page-past p past)
          ∙ sym (ap (λ (e : Option Entry). option_map_or (λ (f : Entry). f.owner) e manager) (entry-past p past))
    ]
      where
        of : (o : Option Entry)
            → option_map_or (λ (q : Page). q.owner) (option_map (λ (e : Entry). let q : Page = record { owner = e.owner; own_right = e.own_right; bytes = page_of x.ram p } in q) o) manager
            ≡ option_map_or (λ (e : Entry). e.owner) o manager
        of None = refl
        of (Some e) = refl

    -- a page that has an entry is none of the tables'
    pub entered-aside : (p : ℕ) (e : Entry) → entry_at x.kept.pages p ≡ Some e → IsAside (length x.manifest.endpoints.items) x.manifest.tables.0 x.manifest.ram_blocks p
    entered-aside p e is = elim (cases_lt p x.manifest.tables.0) [
      | inl before ↦ inl before
      | inr from ↦ elim (cases_lt p (table_page x.manifest.tables.0 x.manifest.ram_blocks (length x.manifest.endpoints.items) 0)) [
        | inr behind ↦ inr behind
        | inl low ↦ absurd (none-some e (sym (machine.owners.tables p from low) ∙ is))
      ]
    ]

    -- nor is a page that an endpoint owns
    pub owned-aside : (p : ℕ) (page : Page) → page_at s p ≡ Some page → IsAside (length x.manifest.endpoints.items) x.manifest.tables.0 x.manifest.ram_blocks p
    owned-aside p page there = elim (cases_lt p (length x.ram.pages)) [
      | inl lt ↦ of (entry_at x.kept.pages p) refl (sym (page-held p lt) ∙ there)
      | inr past ↦ absurd (none-some page (sym (page-past p past) ∙ there))
    ]
      where
        of : (o : Option Entry) → entry_at x.kept.pages p ≡ o
            → option_map (λ (e : Entry). let q : Page = record { owner = e.owner; own_right = e.own_right; bytes = page_of x.ram p } in q) o ≡ Some page
            → IsAside (length x.manifest.endpoints.items) x.manifest.tables.0 x.manifest.ram_blocks p
        of None is none = absurd (none-some page none)
        of (Some e) is some = entered-aside p e is

    blocks-are : blocks_of s ≡ x.manifest.ram_blocks
    blocks-are = let size : length s.pages ≡ 512 * x.manifest.ram_blocks = size_is ∙ machine.tables.size in omega (arith, size)

    -- the tables as the state counts them, and as the manifest does
    pub by-state : (p : ℕ) → IsAside (length x.manifest.endpoints.items) x.manifest.tables.0 x.manifest.ram_blocks p → IsNoTable s p
    by-state p aside = subst (λ z. z) (λ i. IsAside (sym parties_are i) x.manifest.tables.0 (sym blocks-are i) p) aside

    pub by-manifest : (p : ℕ) → IsNoTable s p → IsAside (length x.manifest.endpoints.items) x.manifest.tables.0 x.manifest.ram_blocks p
    by-manifest p aside = subst (λ z. z) (λ i. IsAside (parties_are i) x.manifest.tables.0 (blocks-are i) p) aside

    -- a list by endpoint has an element for each
    pub each : length x.kept.buffers ≡ length x.manifest.endpoints.items
    each = machine.sound.sized.buffers ∙ parties_are

    pub counted : length x.kept.chain.works ≡ length x.manifest.endpoints.items
    counted = machine.sound.sized.works ∙ parties_are
