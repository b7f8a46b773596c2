-- SPDX-License-Identifier: MIT OR Apache-2.0
-- The endpoints of a text that is read have versions that its machine may have.
use Rattle.std.proofs.Common.{◌≡◌, ◌∙◌, ℕ, Bool, true, false, List, [], ◌∷◌, length, replicate, Result, Ok, Err, refl, sym, ap, codes, bytes_eq}
use Rattle.std.specs.Prelude.{◌==◌, if◌then◌else◌}
use Rattle.std.proofs.lemmas.List.Folds.{list_all-append}
use Rattle.ffa_model.specs.declared.endpoint.Endpoint.{Endpoint}
use Rattle.ffa_model.specs.declared.endpoint.Region.{Region}
use Rattle.ffa_model.specs.declared.endpoint.Version as versions
use Rattle.ffa_model.specs.declared.endpoint.Version.TheVariants.{Compact, V1_1, V1_2}
use Rattle.ffa_model.specs.declared.manifest.Ffa.{Ffa}
use Rattle.ffa_model.specs.declared.manifest.Ffa.TheVariants as served
use Rattle.ffa_model.specs.Manifest.{is_placed, regions_of}
use Rattle.ffa_manifest.specs.Document.{Parts, machine, machine_of, ram_base_at, ram_blocks_at, top_keys}
use Rattle.ffa_manifest.specs.Endpoints.{endpoint_items, endpoint_of, endpoints_from, next_endpoint, normal_world, normal_world_keys, normal_world_properties, partition, partition_keys, properties_at, uuid_at, version_at, version_of}
use Rattle.ffa_manifest.specs.Keys.{text_at}
use Rattle.ffa_manifest.specs.Parts.{have_versions, is_version}
use Rattle.ffa_manifest.specs.Reading.{item_count}
use Rattle.ffa_manifest.specs.Regions.{regions_at}
use Rattle.ffa_manifest.specs.declared.error.ManifestError.{ManifestError}
use Rattle.ffa_manifest.specs.declared.error.ManifestError.TheVariants.{Version}
use Rattle.ffa_manifest.proofs.Steps.{bind_ok, read_each-keeps}

-- a machine of FF-A 1.2 may have each version
any-version : (version : versions.Version) → is_version served.V1_2 version ≡ true
any-version Compact = refl
any-version V1_1 = refl
any-version V1_2 = refl

older-version : (is_1_1 is_compact : Bool) (version : versions.Version)
    → (if is_1_1 then Ok V1_1 else if is_compact then Ok Compact else Err Version) ≡ Ok version → is_version served.V1_1 version ≡ true
older-version true is_compact V1_1 is = refl
older-version true is_compact Compact is = refl
older-version true is_compact V1_2 is = cc
older-version false true V1_1 is = refl
older-version false true Compact is = refl
older-version false true V1_2 is = cc
older-version false false version is = cc

named-version : (ffa : Ffa) (text : List ℕ) (version : versions.Version) → version_of ffa text ≡ Ok version → is_version ffa version ≡ true
unfolding version_of
named-version served.V1_1 text version is = older-version (bytes_eq text (codes "1.1")) (bytes_eq text (codes "compact")) version is
named-version served.V1_2 text version is = any-version version

same-ok : {A : Type 0} (x y : A) → ◌≡◌ {A = Result A ManifestError} (Ok x) (Ok y) → x ≡ y
same-ok x y is = cc

-- what follows either way
either-way : {A : Type 0} (c : Bool) (x y : Result A ManifestError) (e : A) (P : Type 0)
    → (if c then x else y) ≡ Ok e → (x ≡ Ok e → P) → (y ≡ Ok e → P) → P
either-way true x y e P is first second = first is
either-way false x y e P is first second = second is

-- an endpoint with this version
with-version : (ffa : Ffa) (e : Endpoint) (version : versions.Version) (uuid : List ℕ) (properties : ℕ) (regions : List Region)
    → endpoint_of version uuid properties regions ≡ e → is_version ffa version ≡ true → is_version ffa e.version ≡ true
with-version ffa e version uuid properties regions made known = ap (λ (x : Endpoint). is_version ffa x.version) (sym made) ∙ known

-- (what TOML says has no type here, since this crate doesn't use its reader: so all of it is one lemma)
pub text-versions : (ffa : Ffa) (text : List ℕ) (parts : Parts) → machine_of ffa text ≡ Ok parts → have_versions parts.ffa parts.endpoints ≡ true
unfolding machine_of machine endpoints_from next_endpoint normal_world partition version_at
text-versions ffa text parts h =
    let (ms, _, h0) = bind_ok _ (machine ffa) parts h in
    let (_, _, h1) = bind_ok (top_keys ms) _ parts h0 in
    let (base, _, h2) = bind_ok (ram_base_at ms) _ parts h1 in
    let (blocks, _, h3) = bind_ok (ram_blocks_at ms) _ parts h2 in
    let (ds, _, h4) = bind_ok (endpoint_items ms) _ parts h3 in
    let placed : Region → Bool = is_placed base 0 blocks (item_count ds) in
    let (endpoints, read, h5) = bind_ok (endpoints_from ffa placed ds) _ parts h4 in
    let all : have_versions ffa endpoints ≡ true =
    read_each-keeps (λ es. have_versions ffa es ≡ true) (next_endpoint ffa placed) (λ before d e so_far is.
    let (its, _, chosen) = bind_ok _ (λ x. if length before == 0 then normal_world ffa placed x else partition ffa placed before x) e is in
    let known : is_version ffa e.version ≡ true =
    either-way (length before == 0) (normal_world ffa placed its) (partition ffa placed before its) e (is_version ffa e.version ≡ true) chosen
    (λ first.
    let (_, _, n1) = bind_ok (normal_world_keys its) _ e first in
    let (version, says, n2) = bind_ok (version_at ffa its) _ e n1 in
    let (properties, _, n3) = bind_ok (normal_world_properties its) _ e n2 in
    let (regions, _, n4) = bind_ok (regions_at placed [] its) _ e n3 in
    let (word, _, named) = bind_ok (text_at (codes "version") its) (version_of ffa) version says in
    with-version ffa e version (replicate 16 0) properties regions (same-ok (endpoint_of version (replicate 16 0) properties regions) e n4) (named-version ffa word version named))
    (λ other.
    let (_, _, n1) = bind_ok (partition_keys its) _ e other in
    let (version, says, n2) = bind_ok (version_at ffa its) _ e n1 in
    let (uuid, _, n3) = bind_ok (uuid_at its) _ e n2 in
    let (properties, _, n4) = bind_ok (properties_at version its) _ e n3 in
    let (regions, _, n5) = bind_ok (regions_at placed (regions_of before) its) _ e n4 in
    let (word, _, named) = bind_ok (text_at (codes "version") its) (version_of ffa) version says in
    with-version ffa e version uuid properties regions (same-ok (endpoint_of version uuid properties regions) e n5) (named-version ffa word version named)) in
    rw (list_all-append (λ (x : Endpoint). is_version ffa x.version) before (e ∷ []), so_far, known) refl) [] ds endpoints refl read in
    let made : Parts = record { ram_base = base; ram_blocks = blocks; tables = 0; endpoints = endpoints; ffa = ffa } in
    let is : made ≡ parts = same-ok made parts h5 in
    ap (λ (x : Parts). have_versions x.ffa x.endpoints) (sym is) ∙ all
