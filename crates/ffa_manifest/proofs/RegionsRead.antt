-- SPDX-License-Identifier: MIT OR Apache-2.0
-- Regions that were read lie in their place, apart from one another and from those taken before.
use Rattle.std.proofs.Common.{◌≡◌, ◌+◌, ◌*◌, Bool, true, false, ◌||◌, List, [], ◌∷◌, ◌++◌, length, append_assoc, append-nil, Ok, refl, sym, ap, ◌∙◌, codes, nat_le}
use Rattle.std.specs.List.{list_all}
use Rattle.std.proofs.lemmas.Bool.{and_parts}
use Rattle.std.proofs.lemmas.List.Folds.{list_all-append}
use Rattle.toml.specs.Data.{Data, as_table, Members}
use Rattle.ffa_model.specs.declared.limits.TheConstants.{MOST_REGIONS}
use Rattle.ffa_model.specs.declared.endpoint.Region.{Region}
use Rattle.ffa_model.specs.Manifest.{is_from_to, is_apart, are_apart}
use Rattle.ffa_manifest.specs.declared.error.ManifestError.TheVariants.{WrongKind, RegionOutside, RegionOverlap, RegionCount}
use Rattle.ffa_manifest.specs.Reading.{or_cause}
use Rattle.ffa_manifest.specs.Keys.{items_at}
use Rattle.ffa_manifest.specs.Regions.{region, region_keys, base_at, pages_at, rights_at, region_from, is_free, next_region, regions_from, regions_at}
use Rattle.ffa_manifest.proofs.Steps.{bind_ok, guard_ok, read_each-keeps, length-read_all, items_at-count}

region-placed : (placed : Region → Bool) (ms : Members) (r : Region) → region placed ms ≡ Ok r → placed r ≡ true
unfolding region
region-placed placed ms r h =
    let (_, _, h1) = bind_ok (region_keys ms) _ r h in
    let (base, _, h2) = bind_ok (base_at ms) _ r h1 in
    let (pages, _, h3) = bind_ok (pages_at ms) _ r h2 in
    let (rights, _, h4) = bind_ok (rights_at ms) _ r h3 in
    let (q, _, h5) = bind_ok (or_cause RegionOutside (region_from base pages rights)) _ r h4 in
    let g = guard_ok (placed q) RegionOutside q r h5 in
    ap placed (sym g.1) ∙ g.0

next_region-passes : (placed : Region → Bool) (taken : List Region) (d : Data) (r : Region) → next_region placed taken d ≡ Ok r → (placed r ≡ true) × (is_free taken r ≡ true)
unfolding next_region
next_region-passes placed taken d r h =
    let (ms, _, h1) = bind_ok (or_cause WrongKind (as_table d)) _ r h in
    let (q, of, h2) = bind_ok (region placed ms) _ r h1 in
    let g = guard_ok (is_free taken q) RegionOverlap q r h2 in
    (ap placed (sym g.1) ∙ region-placed placed ms q of, ap (is_free taken) (sym g.1) ∙ g.0)

or-swap : (x y : Bool) → (x || y) ≡ (y || x)
or-swap true true = refl
or-swap true false = refl
or-swap false true = refl
or-swap false false = refl

pub is_apart-swap : (r q : Region) → is_apart r q ≡ is_apart q r
is_apart-swap r q = or-swap (nat_le (r.base + 4096 * r.pages) q.base) (nat_le (q.base + 4096 * q.pages) r.base)

-- one more region that is apart from all
are_apart-last : (rs : List Region) (r : Region) → are_apart rs ≡ true → is_free rs r ≡ true → are_apart (rs ++ r ∷ []) ≡ true
are_apart-last [] r h f = refl
are_apart-last (q ∷ rs) r h f =
    let (here, more) = and_parts (list_all (is_apart q) rs) (are_apart rs) h in
    let (apart, free) = and_parts (is_apart r q) (is_free rs r) f in
    rw (list_all-append (is_apart q) rs (r ∷ []), here, is_apart-swap q r, apart) (are_apart-last rs r more free)

-- the own regions lie where they may, and none has a page of another or of those taken
pub record AreSound (placed : Region → Bool) (taken own : List Region) : Type 0 where
  pub in_place : list_all placed own ≡ true
  pub apart : are_apart (taken ++ own) ≡ true

-- with one more region that lies where it may and is free
pub AreSound-last : (placed : Region → Bool) (taken own : List Region) (r : Region) → AreSound placed taken own → placed r ≡ true → is_free (taken ++ own) r ≡ true → AreSound placed taken (own ++ r ∷ [])
AreSound-last placed taken own r so_far fits free = record {
  in_place = rw (list_all-append placed own (r ∷ []), so_far.in_place, fits) refl;
  apart = rw (← append_assoc taken own (r ∷ [])) (are_apart-last (taken ++ own) r so_far.apart free);
}

one_more : (placed : Region → Bool) (taken own : List Region) (d : Data) (r : Region) → AreSound placed taken own → next_region placed (taken ++ own) d ≡ Ok r → AreSound placed taken (own ++ r ∷ [])
one_more placed taken own d r so_far is =
    let (fits, free) = next_region-passes placed (taken ++ own) d r is in
    AreSound-last placed taken own r so_far fits free

-- at least one region, and no more than an endpoint may have
pub record RegionsRead (placed : Region → Bool) (taken own : List Region) : Type 0 where
  pub sound : AreSound placed taken own
  pub counted : is_from_to 1 MOST_REGIONS (length own) ≡ true

pub regions_at-read : (placed : Region → Bool) (taken : List Region) (ms : Members) (own : List Region) → are_apart taken ≡ true → regions_at placed taken ms ≡ Ok own → RegionsRead placed taken own
unfolding regions_at regions_from
regions_at-read placed taken ms own apart h =
    let (ds, items, read) = bind_ok (items_at (codes "regions") MOST_REGIONS RegionCount ms) _ own h in
    record {
      sound = read_each-keeps (AreSound placed taken) (λ own d. next_region placed (taken ++ own) d) (one_more placed taken) [] ds own
          (record { in_place = refl; apart = rw (append-nil taken) apart }) read;
      counted = ap (is_from_to 1 MOST_REGIONS) (length-read_all _ ds own read) ∙ items_at-count _ MOST_REGIONS RegionCount ms ds items;
    }
