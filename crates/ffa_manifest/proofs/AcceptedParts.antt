-- SPDX-License-Identifier: MIT OR Apache-2.0
-- Where no test of parts fails, they meet the conditions of a manifest, and only there.
use Rattle.std.proofs.Common.{◌≡◌, ℕ, Bool, true, false, ◌&&◌, ◌||◌, not, List, [], ◌∷◌, ◌++◌, length, append_assoc, append-nil, None, refl, sym, ap, ◌∙◌, nat_lt}
use Rattle.std.specs.List.{list_all}
use Rattle.std.proofs.lemmas.Bool.{and_parts}
use Rattle.std.proofs.lemmas.List.Folds.{list_all-append}
use Rattle.ffa_model.specs.declared.limits.TheConstants.{MOST_ENDPOINTS, MOST_REGIONS}
use Rattle.ffa_model.specs.declared.endpoint.Region.{Region}
use Rattle.ffa_model.specs.declared.endpoint.Endpoint.{Endpoint}
use Rattle.ffa_model.specs.declared.manifest.Ffa.{Ffa}
use Rattle.ffa_model.specs.Bits.{is_set}
use Rattle.ffa_model.specs.Manifest.{has_tables, is_ram_size, is_accepted, is_ram_base, is_from_to, is_placed, is_apart, are_apart, regions_of, are_counted, are_identified, is_normal_world, is_partition, is_nil}
use Rattle.ffa_manifest.specs.declared.error.ManifestError.TheVariants.{Uuid, Property, RegionCount, RegionOutside, RegionOverlap, Version}
use Rattle.ffa_manifest.specs.Regions.{is_free}
use Rattle.ffa_manifest.specs.Parts.{first_failure, tests_of_each, region_tests, endpoint_tests, have_versions, is_version, is_uuid_after, are_properties_after}
use Rattle.ffa_manifest.proofs.RegionsRead.{AreSound, AreSound-last, is_apart-swap}
use Rattle.ffa_manifest.proofs.Accepted.{is_next, none-some, EndpointRead, EndpointsRead, EndpointsRead-last, named_some}
use Rattle.ffa_manifest.proofs.FirstFailure.{passed-first, tests_of_each-keeps, tests_of_each-passed}

-- a UUID and properties by their two tests, and as one condition
normal_world-tests : (nil small first fourth : Bool) → ((nil && small) && (not first && not fourth)) ≡ (nil && (small && not (first || fourth)))
normal_world-tests true true true fourth = refl
normal_world-tests true true false fourth = refl
normal_world-tests true false first fourth = refl
normal_world-tests false small first fourth = refl

is_next-tests : (before : List Endpoint) (e : Endpoint) → is_next before e ≡ (is_uuid_after before e.uuid && are_properties_after before e.version e.properties.0)
is_next-tests [] e = normal_world-tests (is_nil e.uuid) (nat_lt e.properties.0 16) (is_set 0 e.properties.0) (is_set 3 e.properties.0)
is_next-tests (b ∷ bs) e = rw (none-some (length bs)) refl

region-next : (placed : Region → Bool) (taken own : List Region) (r : Region) → AreSound placed taken own → first_failure (region_tests placed (taken ++ own) r) ≡ None → AreSound placed taken (own ++ r ∷ [])
unfolding region_tests
region-next placed taken own r so_far h =
    let (fits, h1) = passed-first (placed r) RegionOutside _ h in
    let (free, _) = passed-first (is_free (taken ++ own) r) RegionOverlap _ h1 in
    AreSound-last placed taken own r so_far fits free

endpoint-read : (ffa : Ffa) (placed : Region → Bool) (before : List Endpoint) (e : Endpoint) → are_apart (regions_of before) ≡ true → first_failure (endpoint_tests ffa placed before e) ≡ None → EndpointRead placed before e
unfolding endpoint_tests
endpoint-read ffa placed before e apart h =
    let (_, h0) = passed-first (is_version ffa e.version) Version _ h in
    let (identified, h1) = passed-first (is_uuid_after before e.uuid) Uuid _ h0 in
    let (bounded, h2) = passed-first (are_properties_after before e.version e.properties.0) Property _ h1 in
    let (counted, h3) = passed-first (is_from_to 1 MOST_REGIONS (length e.regions.items)) RegionCount _ h2 in
    record {
      regions = record {
        sound = tests_of_each-keeps (AreSound placed (regions_of before)) (λ own r. region_tests placed (regions_of before ++ own) r) (region-next placed (regions_of before)) [] e.regions.items
            (record { in_place = refl; apart = rw (append-nil (regions_of before)) apart }) h3;
        counted = counted;
      };
      identified = is_next-tests before e ∙ rw (identified, bounded) refl;
    }

endpoint-next : (ffa : Ffa) (placed : Region → Bool) (before : List Endpoint) (e : Endpoint) → EndpointsRead placed before → first_failure (endpoint_tests ffa placed before e) ≡ None → EndpointsRead placed (before ++ e ∷ [])
endpoint-next ffa placed before e so_far h = EndpointsRead-last placed before e so_far (endpoint-read ffa placed before e so_far.apart h)

-- where no test fails, the parts make a machine
pub accepted_tests : (ffa : Ffa) (base tables blocks : ℕ) (es : List Endpoint) → is_ram_base base ≡ true → is_ram_size base blocks ≡ true → is_from_to 1 MOST_ENDPOINTS (length es) ≡ true
    → has_tables tables blocks (length es) ≡ true
    → first_failure (tests_of_each (endpoint_tests ffa (is_placed base tables blocks (length es))) [] es) ≡ None → is_accepted base tables blocks es ≡ true
accepted_tests ffa base tables blocks es base_is blocks_is few room h =
    let all : EndpointsRead (is_placed base tables blocks (length es)) es =
    tests_of_each-keeps (EndpointsRead (is_placed base tables blocks (length es))) (endpoint_tests ffa (is_placed base tables blocks (length es))) (endpoint-next ffa (is_placed base tables blocks (length es))) [] es
    (record { named = refl; counted = refl; in_place = refl; apart = refl }) h in
    rw (base_is, blocks_is, few, room, named_some es few all.named, all.counted, all.in_place, all.apart) refl

version-next : (ffa : Ffa) (placed : Region → Bool) (before : List Endpoint) (e : Endpoint) → have_versions ffa before ≡ true → first_failure (endpoint_tests ffa placed before e) ≡ None → have_versions ffa (before ++ e ∷ []) ≡ true
unfolding endpoint_tests
version-next ffa placed before e so_far h =
    let (version, _) = passed-first (is_version ffa e.version) Version _ h in
    rw (list_all-append (λ (x : Endpoint). is_version ffa x.version) before (e ∷ []), so_far, version) refl

-- where no test of an endpoint fails, each has a version that the machine may have
pub known_versions : (ffa : Ffa) (placed : Region → Bool) (es : List Endpoint) → first_failure (tests_of_each (endpoint_tests ffa placed) [] es) ≡ None → have_versions ffa es ≡ true
known_versions ffa placed es h = tests_of_each-keeps (λ xs. have_versions ffa xs ≡ true) (endpoint_tests ffa placed) (version-next ffa placed) [] es refl h

-- what holds of all holds of the one at a place
list_all-at : {A : Type 0} (p : A → Bool) (before : List A) (x : A) (after : List A) → list_all p (before ++ x ∷ after) ≡ true → p x ≡ true
list_all-at p before x after h =
    let (_, here) = and_parts (list_all p before) (list_all p (x ∷ after)) (sym (list_all-append p before (x ∷ after)) ∙ h) in
    let (is, _) = and_parts (p x) (list_all p after) here in
    is

-- of regions that are apart, each is free beside those before it
are_apart-at : (before : List Region) (r : Region) (after : List Region) → are_apart (before ++ r ∷ after) ≡ true → is_free before r ≡ true
are_apart-at [] r after h = refl
are_apart-at (q ∷ before) r after h =
    let (here, more) = and_parts (list_all (is_apart q) (before ++ r ∷ after)) (are_apart (before ++ r ∷ after)) h in
    rw (is_apart-swap r q, list_all-at (is_apart q) before r after here) (are_apart-at before r after more)

-- each endpoint is what is to be next after those before it
are_identified-at : (before : List Endpoint) (e : Endpoint) (after : List Endpoint) → are_identified (before ++ e ∷ after) ≡ true → is_next before e ≡ true
are_identified-at [] e after h = let (is, _) = and_parts (is_normal_world e) (list_all is_partition after) h in is
are_identified-at (b ∷ before) e after h =
    let (_, others) = and_parts (is_normal_world b) (list_all is_partition (before ++ e ∷ after)) h in
    list_all-at is_partition before e after others

-- the regions of all endpoints, round one of them
regions_of-at : (before : List Endpoint) (e : Endpoint) (after : List Endpoint) (own : List Region) (r : Region) (rest : List Region) → e.regions.items ≡ own ++ r ∷ rest
    → regions_of (before ++ e ∷ after) ≡ (regions_of before ++ own) ++ r ∷ (rest ++ regions_of after)
regions_of-at [] e after own r rest is = ap (λ rs. rs ++ regions_of after) is ∙ append_assoc own (r ∷ rest) (regions_of after)
regions_of-at (b ∷ before) e after own r rest is =
    ap (λ rs. b.regions.items ++ rs) (regions_of-at before e after own r rest is)
    ∙ rw (append_assoc b.regions.items (regions_of before) own, append_assoc b.regions.items (regions_of before ++ own) (r ∷ (rest ++ regions_of after))) refl

-- one endpoint of a machine passes
endpoint-passed : (ffa : Ffa) (placed : Region → Bool) (es : List Endpoint) → have_versions ffa es ≡ true → are_identified es ≡ true → are_counted es ≡ true → list_all placed (regions_of es) ≡ true → are_apart (regions_of es) ≡ true
    → (before : List Endpoint) (e : Endpoint) (after : List Endpoint) → es ≡ before ++ e ∷ after → first_failure (endpoint_tests ffa placed before e) ≡ None
unfolding endpoint_tests region_tests
endpoint-passed ffa placed es versioned identified counted in_place apart before e after is =
    let (uuid, properties) = and_parts (is_uuid_after before e.uuid) (are_properties_after before e.version e.properties.0)
    (sym (is_next-tests before e) ∙ are_identified-at before e after (ap are_identified (sym is) ∙ identified)) in
    let version : is_version ffa e.version ≡ true =
    list_all-at (λ (x : Endpoint). is_version ffa x.version) before e after (ap (have_versions ffa) (sym is) ∙ versioned) in
    let count : is_from_to 1 MOST_REGIONS (length e.regions.items) ≡ true =
    list_all-at (λ (x : Endpoint). is_from_to 1 MOST_REGIONS (length x.regions.items)) before e after (ap are_counted (sym is) ∙ counted) in
    let region : (own : List Region) (r : Region) (rest : List Region) → e.regions.items ≡ own ++ r ∷ rest → first_failure (region_tests placed (regions_of before ++ own) r) ≡ None =
    λ own r rest at.
    let round : regions_of es ≡ (regions_of before ++ own) ++ r ∷ (rest ++ regions_of after) = ap regions_of is ∙ regions_of-at before e after own r rest at in
    rw (
      list_all-at placed (regions_of before ++ own) r (rest ++ regions_of after) (ap (list_all placed) (sym round) ∙ in_place),
      are_apart-at (regions_of before ++ own) r (rest ++ regions_of after) (ap are_apart (sym round) ∙ apart),
    ) refl in
    rw (version, uuid, properties, count) (tests_of_each-passed (λ own r. region_tests placed (regions_of before ++ own) r) e.regions.items region [] e.regions.items refl)

-- where parts make a machine, no test of an endpoint fails
pub passed_tests : (ffa : Ffa) (base tables blocks : ℕ) (es : List Endpoint) → is_accepted base tables blocks es ≡ true → have_versions ffa es ≡ true
    → first_failure (tests_of_each (endpoint_tests ffa (is_placed base tables blocks (length es))) [] es) ≡ None
passed_tests ffa base tables blocks es h versioned =
    let placed : Region → Bool = is_placed base tables blocks (length es) in
    let (ram, regions) = and_parts ((is_ram_base base && is_ram_size base blocks) && ((is_from_to 1 MOST_ENDPOINTS (length es) && has_tables tables blocks (length es)) && are_identified es)) _ h in
    let (counted, lying) = and_parts (are_counted es) _ regions in
    let (in_place, apart) = and_parts (list_all placed (regions_of es)) (are_apart (regions_of es)) lying in
    let (_, named) = and_parts (is_ram_base base && is_ram_size base blocks) ((is_from_to 1 MOST_ENDPOINTS (length es) && has_tables tables blocks (length es)) && are_identified es) ram in
    let (_, identified) = and_parts (is_from_to 1 MOST_ENDPOINTS (length es) && has_tables tables blocks (length es)) (are_identified es) named in
    tests_of_each-passed (endpoint_tests ffa placed) es (endpoint-passed ffa placed es versioned identified counted in_place apart) [] es refl
