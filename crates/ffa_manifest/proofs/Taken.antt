-- SPDX-License-Identifier: MIT OR Apache-2.0
-- A region beside those that are taken.
use Rattle.std.proofs.Common.{◌≡◌, ◌≤◌, ℕ, Bool, true, ◌&&◌, List, [], ◌∷◌, ◌++◌, length, take, refl, sym, ap, ◌∙◌, take_all}
use Rattle.std.specs.List.{list_all}
use Rattle.std.proofs.lemmas.List.Folds.{list_all-append}
use Rattle.ffa_model.specs.declared.endpoint.Region.{Region}
use Rattle.ffa_model.specs.declared.endpoint.Endpoint.{Endpoint}
use Rattle.ffa_model.specs.Manifest.{is_apart, regions_of}
use Rattle.ffa_manifest.specs.Regions.{is_free}

-- a test of all regions of all endpoints
pub all_regions : (p : Region → Bool) (es : List Endpoint) → list_all p (regions_of es) ≡ list_all (λ (e : Endpoint). list_all p e.regions.items) es
all_regions p [] = refl
all_regions p (e ∷ es) = rw (list_all-append p e.regions.items (regions_of es), all_regions p es) refl

-- free of the endpoints' regions, and of some more
pub is_free_of_both : (r : Region) (es : List Endpoint) (own : List Region)
    → is_free (regions_of es ++ own) r ≡ (list_all (λ (e : Endpoint). is_free e.regions.items r) es && is_free own r)
is_free_of_both r es own = rw (list_all-append (is_apart r) (regions_of es) own, all_regions (is_apart r) es) refl

-- where no endpoint's region meets it and no own one does
pub free_of_both : (r : Region) (es : List Endpoint) (own : List Region) (count : ℕ) → length es ≤ count
    → list_all (λ (e : Endpoint). is_free e.regions.items r) (take count es) ≡ true → is_free own r ≡ true → is_free (regions_of es ++ own) r ≡ true
free_of_both r es own count whole free own_free =
    let every : list_all (λ (e : Endpoint). is_free e.regions.items r) es ≡ true = sym (ap (list_all (λ (e : Endpoint). is_free e.regions.items r)) (take_all count es whole)) ∙ free in
    is_free_of_both r es own ∙ ap (λ b. b && is_free own r) every ∙ own_free
