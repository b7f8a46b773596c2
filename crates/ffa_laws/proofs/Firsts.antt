-- SPDX-License-Identifier: MIT OR Apache-2.0
-- The state in which the machine of an accepted manifest starts is sound, with zeros or other bytes.
use Rattle.std.proofs.Common.{◌≡◌, ◌≢◌, ℕ, zero, suc, ◌*◌, ◌^◌, ◌<◌, Bool, true, List, [], ◌∷◌, length, map, replicate, Some, refl, subst, arith, ◌&&◌, nat_lt, not, slice_get}
use Rattle.std.specs.List.{list_all}
use Rattle.std.proofs.lemmas.Bool.{and_parts, false≢true, ltb-true}
use Rattle.std.proofs.lemmas.List.{length-replicate}
use Rattle.std.proofs.lemmas.Option.{none-some, same_Some}
use Rattle.ffa_model.specs.declared.endpoint.Endpoint.{Endpoint}
use Rattle.ffa_model.specs.declared.endpoint.Version.{Version}
use Rattle.ffa_model.specs.declared.endpoint.Version.TheVariants.{Compact, V1_1, V1_2}
use Rattle.ffa_model.specs.declared.manifest.Ffa.{Ffa}
use Rattle.ffa_model.specs.First.{first, first_held, party_of}
use Rattle.ffa_model.specs.Identifiers.{manager}
use Rattle.ffa_model.specs.Regions.{owner_in}
use Rattle.ffa_model.specs.State.{Party}
use Rattle.ffa_model.specs.Manifest.{are_identified, are_properties, is_accepted, is_nil, is_normal_world, is_partition}
use Rattle.ffa_model.specs.SoundState.{IsSoundParty, IsSoundState, are_bytes}
use Rattle.ffa_model.proofs.Accepted.{accepted}
use Rattle.ffa_model.proofs.FirstSound.{first-sound as accepted_sound, zeros-bytes}
use Rattle.ffa_model.proofs.FirstChain.{first-schedule-sound}

-- ---- of an accepted manifest
all-get : {X : Type 0} (test : X → Bool) (xs : List X) (i : ℕ) (x : X) → list_all test xs ≡ true → slice_get xs i ≡ Some x → test x ≡ true
all-get test [] i x all is = absurd (none-some x is)
all-get test (y ∷ ys) zero x all is = subst (λ z. test z ≡ true) (same_Some y x is) (and_parts (test y) (list_all test ys) all).0
all-get test (y ∷ ys) (suc i) x all is = all-get test ys i x (and_parts (test y) (list_all test ys) all).1 is

map-get : (es : List Endpoint) (i : ℕ) (party : Party) → slice_get (map party_of es) i ≡ Some party → (e : Endpoint) × (slice_get es i ≡ Some e) × (party_of e ≡ party)
map-get [] i party is = absurd (none-some party is)
map-get (e ∷ es) zero party is = (e, refl, same_Some (party_of e) party is)
map-get (e ∷ es) (suc i) party is = map-get es i party is

-- the property words of an accepted manifest
few-bits : (version : Version) (word : ℕ) → are_properties version word ≡ true → word < 2 ^ 11
few-bits V1_2 word is = ltb-true word (2 ^ 11) (and_parts _ _ is).0
few-bits Compact word is = let low = ltb-true word 16 is in omega (arith, low)
few-bits V1_1 word is = let low = ltb-true word 16 is in omega (arith, low)

few-properties : (es : List Endpoint) (i : ℕ) (e : Endpoint) → are_identified es ≡ true → slice_get es i ≡ Some e → e.properties.0 < 2 ^ 11
few-properties [] i e identified is = absurd (false≢true identified)
few-properties (x ∷ es) zero e identified is =
    subst (λ (y : Endpoint). y.properties.0 < 2 ^ 11) (same_Some x e is)
    (few-bits Compact x.properties.0 (and_parts _ _ (and_parts (is_nil x.uuid && nat_lt x.properties.0 16) _ (and_parts (is_normal_world x) (list_all is_partition es) identified).0).0).1)
few-properties (x ∷ es) (suc i) e identified is =
    few-bits e.version e.properties.0 (and_parts (not (is_nil e.uuid)) _ (all-get is_partition es i e (and_parts (is_normal_world x) (list_all is_partition es) identified).1 is)).1

-- whatever bytes the pages of its regions have
pub first-held-sound : (ffa : Ffa) (base tables blocks : ℕ) (es : List Endpoint) (held : ℕ → List ℕ) → is_accepted base tables blocks es ≡ true
    → ((i : ℕ) (e : Endpoint) → slice_get es i ≡ Some e → (length e.uuid ≡ 16) × (are_bytes e.uuid))
    → ((p : ℕ) → p < 512 * blocks → owner_in base es p ≢ manager → (length (held p) ≡ 4096) × are_bytes (held p))
    → IsSoundState (first_held ffa base tables blocks es held)
first-held-sound ffa base tables blocks es held good uuids whole =
    let facts = accepted base tables blocks es good in
    accepted_sound ffa base tables blocks es held good whole (first-schedule-sound (length es) facts.some_endpoints facts.few_endpoints) (λ i party is.
    let (e, at, same) = map-get es i party is in
    let (size, bytes) = uuids i e at in
    let few = few-properties es i e facts.identified at in
    subst IsSoundParty same (record { size = size; bytes = bytes; properties = omega (arith, few) }))

pub first-state-sound : (ffa : Ffa) (base tables blocks : ℕ) (es : List Endpoint) → is_accepted base tables blocks es ≡ true
    → ((i : ℕ) (e : Endpoint) → slice_get es i ≡ Some e → (length e.uuid ≡ 16) × (are_bytes e.uuid)) → IsSoundState (first ffa base tables blocks es)
unfolding first
first-state-sound ffa base tables blocks es good uuids =
    first-held-sound ffa base tables blocks es (λ p. replicate 4096 0) good uuids (λ p inside owned. (length-replicate {A = ℕ} 4096 0, zeros-bytes 4096))
