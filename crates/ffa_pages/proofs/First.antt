-- SPDX-License-Identifier: MIT OR Apache-2.0
-- The owner and the right of a page of an accepted manifest make its entry.
use Rattle.std.proofs.Common.{◌≡◌, ◌∙◌, ℕ, true, false, List, Option, Some, None, refl, sym, ap, ◌==◌, find}
use Rattle.std.specs.Option.{option_map, option_map_or}
use Rattle.std.proofs.lemmas.Bool.{eqb-true, eqb-false}
use Rattle.ffa_model.specs.declared.endpoint.Region.{Region}
use Rattle.ffa_model.specs.declared.endpoint.Endpoint.{Endpoint}
use Rattle.ffa_model.specs.declared.rights.Rights.{Rights}
use Rattle.ffa_model.specs.Identifiers.{manager, place}
use Rattle.ffa_model.specs.Manifest.{are_apart, regions_of}
use Rattle.ffa_model.specs.Regions.{right_in, regions_at, owned_regions, owner_in}
use Rattle.ffa_model.proofs.Owners.{has, found-named, found-right, identifier-manager}
use Rattle.ffa_pages.specs.Entry.{Entry, first_entry}

-- the owner and the entry of the region that was found
abbrev owner_if : Option (ℕ × Region) → ℕ
owner_if o = option_map_or (λ (x : ℕ × Region). x.0) o manager

abbrev entry_if : Option (ℕ × Region) → Option Entry
entry_if o = option_map (λ (x : ℕ × Region). record { owner = x.0; own_right = x.1.rights; slot = None }) o

-- the entry of a page with this owner, if the owner has a right to it
abbrev pub entry_with : ℕ → Option Rights → Option Entry
entry_with owner right = option_map (λ (r : Rights). record { owner = owner; own_right = r; slot = None }) right

pub first-managers : (base p owner : ℕ) (es : List Endpoint) → owner ≡ owner_in base es p → (owner == manager) ≡ true → first_entry base es p ≡ None
first-managers base p owner es is managers = of (find (has base p) (owned_regions es)) refl (sym is ∙ eqb-true owner manager managers)
  where
    of : (o : Option (ℕ × Region)) → find (has base p) (owned_regions es) ≡ o → owner_if o ≡ manager → entry_if o ≡ None
    of None found managers = refl
    of (Some x) found managers = absurd (identifier-manager (place x.0) (found-named base p es x found ∙ managers))

pub first-owned : (base p owner i : ℕ) (right : Option Rights) (es : List Endpoint) → are_apart (regions_of es) ≡ true
    → owner ≡ owner_in base es p → (owner == manager) ≡ false → i ≡ place owner → right ≡ right_in base (regions_at es i) p
    → first_entry base es p ≡ entry_with owner right
first-owned base p owner i right es apart is owned at gives =
    of (find (has base p) (owned_regions es)) refl (λ same. eqb-false owner manager owned (is ∙ same))
    ∙ ap (λ (o : ℕ). entry_with o (right_in base (regions_at es (place o)) p)) (sym is)
    ∙ ap (λ (j : ℕ). entry_with owner (right_in base (regions_at es j) p)) (sym at)
    ∙ ap (entry_with owner) (sym gives)
  where
    of : (o : Option (ℕ × Region)) → find (has base p) (owned_regions es) ≡ o → (owner_if o ≡ manager → ⊥)
        → entry_if o ≡ entry_with (owner_if o) (right_in base (regions_at es (place (owner_if o))) p)
    of None found some = absurd (some refl)
    of (Some x) found some = ap (entry_with x.0) (sym (found-right base p es x apart found))
