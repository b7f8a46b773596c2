-- SPDX-License-Identifier: MIT OR Apache-2.0
-- Numbers are never refused for want of memory.
use Rattle.std.proofs.Common.{◌≡◌, ◌≢◌, ◌∙◌, ℕ, Bool, true, false, List, [], ◌∷◌, ◌++◌, Option, None, Some, Result, Ok, Err, take, length, ap, sym}
use Rattle.std.specs.Prelude.{IfErr, nat_le, if◌then◌else◌}
use Rattle.std.specs.Option.{option_map}
use Rattle.ffa_model.specs.declared.endpoint.Endpoint.{Endpoint}
use Rattle.ffa_model.specs.declared.endpoint.Region.{Region}
use Rattle.ffa_model.specs.declared.limits.TheConstants.{MOST_ENDPOINTS, MOST_REGIONS}
use Rattle.ffa_model.specs.declared.manifest.Ffa.{Ffa}
use Rattle.ffa_model.specs.Manifest.{is_placed, regions_of}
use Rattle.ffa_manifest.specs.Document.{Parts}
use Rattle.ffa_manifest.specs.Parts.{Tests, endpoint_tests, first_cause, first_failure, region_tests, tests_of, tests_of_each}
use Rattle.ffa_manifest.specs.Reading.{◌>>=◌, or_cause}
use Rattle.ffa_manifest.specs.declared.error.ManifestError.{ManifestError}
use Rattle.ffa_manifest.specs.declared.error.ManifestError.TheVariants.{NoMemory, WrongKind, EndpointCount, RegionCount, Version}
use Rattle.ffa_c.specs.declared.manifest.CEndpoint.{CEndpoint}
use Rattle.ffa_c.specs.declared.manifest.CManifest.{CManifest}
use Rattle.ffa_c.specs.declared.manifest.CRegion.{CRegion}
use Rattle.ffa_c.specs.Given.{counted, each_given, endpoint_given, endpoints_given, parts_given, refusal_of, region_given, rights_given, version_given, ffa_given}

-- ---- what tells parts

-- it isn't refused for want of memory
abbrev InRoom : {A : Type 0} → Result A ManifestError → Type 0
InRoom (Ok x) = Unit {0}
InRoom (Err cause) = cause ≢ NoMemory

or-in-room : {A : Type 0} (cause : ManifestError) (o : Option A) → cause ≢ NoMemory → InRoom (or_cause cause o)
or-in-room cause None other = other
or-in-room cause (Some x) other = tt

then-in-room : {A B : Type 0} (r : Result A ManifestError) (f : A → Result B ManifestError) → InRoom r → ((x : A) → InRoom (f x)) → InRoom (r >>= f)
then-in-room (Ok x) f here there = there x
then-in-room (Err cause) f here there = here

each-in-room : {A B : Type 0} (one : A → Result B ManifestError) (before : List B) (xs : List A) → ((x : A) → InRoom (one x)) → InRoom (each_given one before xs)
each-in-room one before [] each = tt
each-in-room one before (x ∷ xs) each =
    then-in-room (one x) (λ y. each_given one (before ++ y ∷ []) xs) (each x) (λ y. each-in-room one (before ++ y ∷ []) xs each)

counted-in-room : {A B : Type 0} (one : A → Result B ManifestError) (most count : ℕ) (cause : ManifestError) (places : List A)
    → cause ≢ NoMemory → ((x : A) → InRoom (one x)) → InRoom (counted one most cause count places)
counted-in-room one most count cause places other each = of (nat_le count most)
  where
    of : (c : Bool) → InRoom (if c then each_given one [] (take count places) else Err cause)
    of true = each-in-room one [] (take count places) each
    of false = other

region-in-room : (r : CRegion) → InRoom (region_given r)
region-in-room r = or-in-room WrongKind (option_map (λ rights. record { base = r.base; pages = r.pages; rights = rights }) (rights_given r.rights)) (λ same. cc)

endpoint-in-room : (e : CEndpoint) → InRoom (endpoint_given e)
endpoint-in-room e =
    then-in-room (or_cause Version (version_given e.version)) _ (or-in-room Version (version_given e.version) (λ same. cc)) (λ version.
    then-in-room (counted region_given MOST_REGIONS RegionCount e.region_count e.regions) _
    (counted-in-room region_given MOST_REGIONS e.region_count RegionCount e.regions (λ same. cc) region-in-room) (λ regions. tt))

parts-in-room : (p : CManifest) → InRoom (parts_given p)
parts-in-room p =
    then-in-room (counted endpoint_given MOST_ENDPOINTS EndpointCount p.endpoint_count p.endpoints) _
    (counted-in-room endpoint_given MOST_ENDPOINTS p.endpoint_count EndpointCount p.endpoints (λ same. cc) endpoint-in-room) (λ endpoints.
    then-in-room (or_cause WrongKind (ffa_given p.ffa)) _ (or-in-room WrongKind (ffa_given p.ffa) (λ same. cc)) (λ ffa. tt))

-- ---- what makes a machine of them

-- no test is one of memory
abbrev AreInRoom : Tests → Type 0
AreInRoom [] = Unit {0}
AreInRoom (t ∷ ts) = (t.1 ≢ NoMemory) × AreInRoom ts

both-in-room : (ts us : Tests) → AreInRoom ts → AreInRoom us → AreInRoom (ts ++ us)
both-in-room [] us first second = second
both-in-room (t ∷ ts) us first second = (first.0, both-in-room ts us first.1 second)

all-in-room : {A : Type 0} (tests_of_one : List A → A → Tests) (before xs : List A)
    → ((before : List A) (x : A) → AreInRoom (tests_of_one before x)) → AreInRoom (tests_of_each tests_of_one before xs)
all-in-room tests_of_one before [] each = tt
all-in-room tests_of_one before (x ∷ xs) each =
    both-in-room (tests_of_one before x) (tests_of_each tests_of_one (before ++ x ∷ []) xs) (each before x) (all-in-room tests_of_one (before ++ x ∷ []) xs each)

region-tests : (placed : Region → Bool) (taken : List Region) (r : Region) → AreInRoom (region_tests placed taken r)
unfolding region_tests
region-tests placed taken r = (λ same. cc, (λ same. cc, tt))

endpoint-tests : (ffa : Ffa) (placed : Region → Bool) (before : List Endpoint) (e : Endpoint) → AreInRoom (endpoint_tests ffa placed before e)
unfolding endpoint_tests
endpoint-tests ffa placed before e = (
  λ same. cc,
  (
    λ same. cc,
    (
      λ same. cc,
      (
        λ same. cc,
        all-in-room (λ own r. region_tests placed (regions_of before ++ own) r) [] e.regions.items (λ own r. region-tests placed (regions_of before ++ own) r),
      ),
    ),
  ),
)

machine-tests : (parts : Parts) → AreInRoom (tests_of parts)
unfolding tests_of
machine-tests parts =
    let placed = is_placed parts.ram_base parts.tables parts.ram_blocks (length parts.endpoints) in
    (λ same. cc, (λ same. cc, (λ same. cc, (λ same. cc, all-in-room (endpoint_tests parts.ffa placed) [] parts.endpoints (endpoint-tests parts.ffa placed)))))

failure-in-room : (ts : Tests) (cause : ManifestError) → AreInRoom ts → first_failure ts ≡ Some cause → cause ≢ NoMemory
failure-in-room [] cause each is same = cc
failure-in-room (t ∷ ts) cause each is same = of t.0 is (λ later. failure-in-room ts cause each.1 later same)
  where
    of : (c : Bool) → (if c then first_failure ts else Some t.1) ≡ Some cause → (first_failure ts ≡ Some cause → ⊥) → ⊥
    of true later rest = rest later
    of false here rest = each.0 cc

cause-in-room : (parts : Parts) (cause : ManifestError) → first_cause parts ≡ Some cause → cause ≢ NoMemory
unfolding first_cause
cause-in-room parts cause is = failure-in-room (tests_of parts) cause (machine-tests parts) is

refusal-in-room : (p : CManifest) (cause : ManifestError) → refusal_of (parts_given p) ≡ Some cause → cause ≢ NoMemory
refusal-in-room p cause is = of (parts_given p) (parts-in-room p) is
  where
    of : (r : Result Parts ManifestError) → InRoom r → refusal_of r ≡ Some cause → cause ≢ NoMemory
    of (Err other) room is same = room cc
    of (Ok parts) room is same = cause-in-room parts cause is same

-- of whatever was to be made of them
pub refused-in-room : {M : Type 0} (p : CManifest) (r : Result M ManifestError)
    → IfErr r (λ cause. refusal_of (parts_given p) ≡ Some cause) → IfErr r (λ cause. cause ≢ NoMemory)
refused-in-room p (Ok made) refused = tt
refused-in-room p (Err cause) refused = refusal-in-room p cause refused

-- ---- numbers that tell parts

pub parts_told : (given : CManifest) (es : List Endpoint) (ffa : Ffa) → endpoints_given given ≡ Ok es → Some ffa ≡ ffa_given given.ffa
    → parts_given given ≡ Ok (record { ram_base = given.ram_base; ram_blocks = given.ram_blocks; tables = given.tables; endpoints = es; ffa = ffa })
parts_told given es ffa told is =
    let with_ffa : List Endpoint → Ffa → Result Parts ManifestError = λ es ffa.
    Ok (record { ram_base = given.ram_base; ram_blocks = given.ram_blocks; tables = given.tables; endpoints = es; ffa = ffa }) in
    ap (λ r. r >>= λ es. or_cause WrongKind (ffa_given given.ffa) >>= λ ffa. with_ffa es ffa) told
    ∙ ap (λ o. or_cause WrongKind o >>= λ ffa. with_ffa es ffa) (sym is)
