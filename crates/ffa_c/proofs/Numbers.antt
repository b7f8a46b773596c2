-- SPDX-License-Identifier: MIT OR Apache-2.0
-- The numbers that C is told of a machine's parts give these parts.
use Rattle.std.proofs.Common.{◌≡◌, ◌∙◌, ℕ, suc, ◌+◌, ◌-◌, ◌<◌, ◌≤◌, Bool, true, false, List, [], ◌∷◌, ◌++◌, length, map, take, drop, replicate, None, Some, Result, Ok, Err, ap, sym, refl, subst, set, get_or, arith, append-nil, append_assoc, le-leb, length-append}
use Rattle.std.specs.Prelude.{All, nat_le, ◌&&◌, if◌then◌else◌}
use Rattle.std.specs.List.{list_all}
use Rattle.std.specs.Option.{option_map}
use Rattle.std.proofs.Math.Seq.{drop-append_seam, set-append_seam, take-append_seam}
use Rattle.std.proofs.lemmas.Bool.{and_parts, leb-true}
use Rattle.std.proofs.lemmas.List.{length-map, length-take-le, map_more}
use Rattle.std.proofs.lemmas.List.Elements.{All-append, All-cons, All-map, All-nil, All-replicate}
use Rattle.ffa_model.specs.declared.endpoint.Endpoint.{Endpoint}
use Rattle.ffa_model.specs.declared.endpoint.Region.{Region}
use Rattle.ffa_model.specs.declared.endpoint.Version as versions
use Rattle.ffa_model.specs.declared.endpoint.Version.TheVariants.{Compact, V1_1, V1_2}
use Rattle.ffa_model.specs.declared.limits.TheConstants.{MOST_ENDPOINTS, MOST_REGIONS}
use Rattle.ffa_model.specs.declared.manifest.Ffa.{Ffa}
use Rattle.ffa_model.specs.declared.manifest.Ffa.TheVariants as served
use Rattle.ffa_model.specs.declared.rights.Data as rights
use Rattle.ffa_model.specs.declared.rights.Data.TheVariants.{Ro, Rw}
use Rattle.ffa_model.specs.declared.rights.Rights.{Rights}
use Rattle.ffa_model.specs.Manifest.{are_apart, are_counted, are_identified, is_accepted, has_tables, is_from_to, is_placed, is_ram_base, is_ram_size, regions_of}
use Rattle.ffa_manifest.specs.Document.{Parts}
use Rattle.ffa_manifest.specs.Parts.{have_versions, endpoint_tests, first_cause, tests_of, tests_of_each}
use Rattle.ffa_manifest.specs.Reading.{◌>>=◌, or_cause}
use Rattle.ffa_manifest.specs.declared.error.ManifestError.{ManifestError}
use Rattle.ffa_manifest.specs.declared.error.ManifestError.TheVariants.{EndpointCount, RegionCount, Version, WrongKind}
use Rattle.ffa_manifest.proofs.AcceptedParts.{passed_tests}
use Rattle.ffa_c.specs.declared.manifest.CEndpoint.{CEndpoint}
use Rattle.ffa_c.specs.declared.manifest.CRegion.{CRegion}
use Rattle.ffa_c.specs.Border.{access_code, exec_code, level_code}
use Rattle.ffa_c.specs.Given.{Gives, counted, each_given, endpoint_given, parts_given, region_given, regions_given, rights_given, version_given, ffa_given}
use Rattle.ffa_c.specs.Numbers.{endpoint_numbers, numbers, padded, region_numbers, version_number, ffa_number}
use Rattle.ffa_c.specs.Reading.{IsClear, no_endpoint, no_region}

-- ---- what is told is given

rights-again : (r : Rights) → rights_given (access_code (Some r)) ≡ Some r
rights-again r = of r.level r.exec
  where
    of : (level : rights.Data) (exec : Bool) → rights_given (level_code level + exec_code exec) ≡ Some (record { level = level; exec = exec })
    of Ro false = refl
    of Ro true = refl
    of Rw false = refl
    of Rw true = refl

version-again : (v : versions.Version) → version_given (version_number v) ≡ Some v
version-again V1_1 = refl
version-again Compact = refl
version-again V1_2 = refl

ffa-again : (w : Ffa) → ffa_given (ffa_number w) ≡ Some w
ffa-again served.V1_1 = refl
ffa-again served.V1_2 = refl

region-again : (r : Region) → region_given (region_numbers r) ≡ Ok r
region-again r =
    ap (λ o. or_cause WrongKind (option_map (λ (rights : Rights). let region : Region = record { base = r.base; pages = r.pages; rights = rights } in region) o)) (rights-again r.rights)

-- the front of an array, and what stands behind it
front : {A B : Type 0} (places : ℕ) (zero : A) (tell : B → A) (xs : List B) → take (length xs) (padded places zero (map tell xs)) ≡ map tell xs
front places zero tell xs =
    let ys = map tell xs in
    ap (λ n. take n (padded places zero ys)) (sym (length-map xs tell)) ∙ take-append_seam ys (replicate (places - length ys) zero)

behind : {A B : Type 0} (places : ℕ) (zero : A) (tell : B → A) (xs : List B)
    → drop (length xs) (padded places zero (map tell xs)) ≡ replicate (places - length (map tell xs)) zero
behind places zero tell xs =
    let ys = map tell xs in
    ap (λ n. drop n (padded places zero ys)) (sym (length-map xs tell)) ∙ drop-append_seam ys (replicate (places - length ys) zero)

module _ {A B : Type 0} (one : A → Result B ManifestError) (tell : B → A) (good : B → Bool) (again : (x : B) → good x ≡ true → one (tell x) ≡ Ok x) where
  each-again : (before xs : List B) → list_all good xs ≡ true → each_given one before (map tell xs) ≡ Ok (before ++ xs)
  each-again before [] all = ap (λ ys. Ok ys) (sym (append-nil before))
  each-again before (x ∷ xs) all =
      let (here, there) = and_parts (good x) (list_all good xs) all in
      ap (λ r. r >>= λ y. each_given one (before ++ y ∷ []) (map tell xs)) (again x here)
      ∙ (each-again (before ++ x ∷ []) xs there ∙ ap (λ ys. Ok ys) (append_assoc before (x ∷ []) xs))

  counted-again : (most : ℕ) (cause : ManifestError) (zero : A) (xs : List B) → length xs ≤ most → list_all good xs ≡ true
      → counted one most cause (length xs) (padded most zero (map tell xs)) ≡ Ok xs
  counted-again most cause zero xs few all =
      ap (λ (b : Bool). if b then each_given one [] (take (length xs) (padded most zero (map tell xs))) else Err cause) (le-leb (length xs) most few)
      ∙ (ap (each_given one []) (front most zero tell xs) ∙ each-again [] xs all)

all-true : {A : Type 0} (xs : List A) → list_all (λ _. true) xs ≡ true
all-true [] = refl
all-true (x ∷ xs) = all-true xs

few : (most n : ℕ) → is_from_to 1 most n ≡ true → n ≤ most
few most n within = leb-true n most (and_parts (nat_le 1 n) (nat_le n most) within).1

endpoint-again : (e : Endpoint) → is_from_to 1 MOST_REGIONS (length e.regions.items) ≡ true → endpoint_given (endpoint_numbers e) ≡ Ok e
endpoint-again e within =
    let regions : regions_given (endpoint_numbers e) ≡ Ok e.regions.items =
    counted-again region_given region_numbers (λ _. true) (λ r _. region-again r) MOST_REGIONS RegionCount no_region e.regions.items
    (few MOST_REGIONS (length e.regions.items) within) (all-true e.regions.items) in
    let with_regions : versions.Version → List Region → Result Endpoint ManifestError = λ version rs.
    Ok (record { version = version; uuid = e.uuid; properties = record { 0 = e.properties.0 }; regions = record { items = rs } }) in
    ap (λ o. or_cause Version o >>= λ version. regions_given (endpoint_numbers e) >>= λ rs. with_regions version rs) (version-again e.version)
    ∙ ap (λ r. r >>= λ rs. with_regions e.version rs) regions

parts-again : (parts : Parts) → length parts.endpoints ≤ MOST_ENDPOINTS → are_counted parts.endpoints ≡ true → parts_given (numbers parts) ≡ Ok parts
parts-again parts small all =
    let with_ffa : List Endpoint → Ffa → Result Parts ManifestError = λ es ffa.
    Ok (record { ram_base = parts.ram_base; ram_blocks = parts.ram_blocks; tables = parts.tables; endpoints = es; ffa = ffa }) in
    ap (λ r. r >>= λ es. or_cause WrongKind (ffa_given (ffa_number parts.ffa)) >>= λ ffa. with_ffa es ffa)
    (counted-again endpoint_given endpoint_numbers (λ e. is_from_to 1 MOST_REGIONS (length e.regions.items)) endpoint-again
    MOST_ENDPOINTS EndpointCount no_endpoint parts.endpoints small all)
    ∙ ap (λ o. or_cause WrongKind o >>= λ ffa. with_ffa parts.endpoints ffa) (ffa-again parts.ffa)

-- ---- an accepted manifest's parts make a machine

module _ (parts : Parts) (good : is_accepted parts.ram_base parts.tables parts.ram_blocks parts.endpoints ≡ true)
    (versioned : have_versions parts.ffa parts.endpoints ≡ true) where
  abbrev es : List Endpoint
  es = parts.endpoints

  abbrev ram : Bool
  ram = is_ram_base parts.ram_base && is_ram_size parts.ram_base parts.ram_blocks

  abbrev named : Bool
  named = (is_from_to 1 MOST_ENDPOINTS (length es) && has_tables parts.tables parts.ram_blocks (length es)) && are_identified es

  abbrev lying : Bool
  lying = list_all (is_placed parts.ram_base parts.tables parts.ram_blocks (length es)) (regions_of es) && are_apart (regions_of es)

  head-good : ram && named ≡ true
  head-good = (and_parts (ram && named) (are_counted es && lying) good).0

  counted-good : are_counted es ≡ true
  counted-good = (and_parts (are_counted es) lying (and_parts (ram && named) (are_counted es && lying) good).1).0

  base-good : is_ram_base parts.ram_base ≡ true
  base-good = (and_parts (is_ram_base parts.ram_base) (is_ram_size parts.ram_base parts.ram_blocks) (and_parts ram named head-good).0).0

  blocks-good : is_ram_size parts.ram_base parts.ram_blocks ≡ true
  blocks-good = (and_parts (is_ram_base parts.ram_base) (is_ram_size parts.ram_base parts.ram_blocks) (and_parts ram named head-good).0).1

  abbrev counts : Bool
  counts = is_from_to 1 MOST_ENDPOINTS (length es) && has_tables parts.tables parts.ram_blocks (length es)

  counts-good : counts ≡ true
  counts-good = (and_parts counts (are_identified es) (and_parts ram named head-good).1).0

  count-good : is_from_to 1 MOST_ENDPOINTS (length es) ≡ true
  count-good = (and_parts (is_from_to 1 MOST_ENDPOINTS (length es)) (has_tables parts.tables parts.ram_blocks (length es)) counts-good).0

  room-good : has_tables parts.tables parts.ram_blocks (length es) ≡ true
  room-good = (and_parts (is_from_to 1 MOST_ENDPOINTS (length es)) (has_tables parts.tables parts.ram_blocks (length es)) counts-good).1

  no-cause : first_cause parts ≡ None
  unfolding first_cause tests_of
  no-cause =
      let each = tests_of_each (endpoint_tests parts.ffa (is_placed parts.ram_base parts.tables parts.ram_blocks (length es))) [] es in
      rw (base-good, blocks-good, count-good, room-good) (passed_tests parts.ffa parts.ram_base parts.tables parts.ram_blocks es good versioned)

  pub numbers-give : Gives (numbers parts) parts
  numbers-give = record { told = parts-again parts (few MOST_ENDPOINTS (length es) count-good) counted-good; whole = no-cause }

-- ---- zeros behind what is told

regions-clear : (e : Endpoint) → All (λ (r : CRegion). r ≡ no_region) (drop (endpoint_numbers e).region_count (endpoint_numbers e).regions)
regions-clear e =
    subst (All (λ (r : CRegion). r ≡ no_region)) (sym (behind MOST_REGIONS no_region region_numbers e.regions.items))
    (All-replicate (λ (r : CRegion). r ≡ no_region) (MOST_REGIONS - length (map region_numbers e.regions.items)) no_region refl)

all-of : {A : Type 0} (P : A → Type 0) → ((x : A) → P x) → (xs : List A) → All P xs
all-of P each [] = All-nil P
all-of P each (x ∷ xs) = All-cons P x xs (each x) (all-of P each xs)

pub numbers-clear : (parts : Parts) → IsClear (numbers parts)
numbers-clear parts =
    let es = parts.endpoints in
    let more = MOST_ENDPOINTS - length (map endpoint_numbers es) in
    let clear : CEndpoint → Type 0 = λ e. All (λ (r : CRegion). r ≡ no_region) (drop e.region_count e.regions) in
    record {
      endpoints = subst (All (λ (e : CEndpoint). e ≡ no_endpoint)) (sym (behind MOST_ENDPOINTS no_endpoint endpoint_numbers es))
          (All-replicate (λ (e : CEndpoint). e ≡ no_endpoint) more no_endpoint refl);
      regions = All-append clear (map endpoint_numbers es) (replicate more no_endpoint)
          (All-map clear endpoint_numbers es (all-of (λ (e : Endpoint). clear (endpoint_numbers e)) regions-clear es))
          (All-replicate clear more no_endpoint (All-replicate (λ (r : CRegion). r ≡ no_region) MOST_REGIONS no_region refl));
    }

-- ---- one more is told

pub padded-more : {A B : Type 0} (places : ℕ) (zero : A) (tell : B → A) (xs : List B) (i : ℕ) (d : B) → i < length xs → length xs ≤ places
    → set (padded places zero (map tell (take i xs))) i (tell (get_or xs i d)) ≡ padded places zero (map tell (take (i + 1) xs))
padded-more {A} {B} places zero tell xs i d inside fits =
    let ys : List A = map tell (take i xs) in
    let v : A = tell (get_or xs i d) in
    let rest : List A = replicate (places - (i + 1)) zero in
    let long : length ys ≡ i = length-map (take i xs) tell ∙ length-take-le i xs (omega (arith, inside)) in
    let longer : length (ys ++ v ∷ []) ≡ i + 1 = length-append ys (v ∷ []) ∙ omega (arith, long) in
    let room : places - length ys ≡ suc (places - (i + 1)) = omega (arith, long, inside, fits) in
    let left : places - (i + 1) ≡ places - length (ys ++ v ∷ []) = omega (arith, longer) in
    ap (λ n. set (ys ++ replicate n zero) i v) room
    ∙ (ap (λ n. set (ys ++ zero ∷ rest) n v) (sym long)
    ∙ (set-append_seam ys zero rest v
    ∙ (sym (append_assoc ys (v ∷ []) rest)
    ∙ (ap (λ n. (ys ++ v ∷ []) ++ replicate n zero) left
    ∙ ap (padded places zero) (sym (map_more tell xs i d inside))))))
