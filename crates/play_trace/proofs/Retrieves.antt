-- SPDX-License-Identifier: MIT OR Apache-2.0
-- The bytes of a retrieve are read as it.
use Rattle.std.proofs.Common.{◌≡◌, ◌≢◌, ◌∙◌, ℕ, ◌+◌, ◌*◌, ◌≤◌, ◌^◌, ◌<◌, ◌==◌, Bool, true, false, cond, eqb, List, [], ◌++◌, length, Option, Some, None, refl, sym, ap, subst, inl, inr, arith, length-append, append-nil, nat_le, position}
use Rattle.std.specs.Prelude.{unwrap_or}
use Rattle.std.proofs.lemmas.Bool.{cases_Bool}
use Rattle.ffa_model.specs.declared.endpoint.Version.{Version}
use Rattle.ffa_model.specs.declared.endpoint.Version.TheVariants.{Compact, V1_1, V1_2}
use Rattle.ffa_model.specs.declared.limits.TheConstants.{MOST_RECEIVERS}
use Rattle.ffa_model.specs.declared.manifest.Ffa.{Ffa}
use Rattle.ffa_model.specs.declared.manifest.Ffa.TheVariants as served
use Rattle.ffa_model.specs.declared.rights.Data.{Data}
use Rattle.ffa_model.specs.declared.rights.Data.TheVariants.{Ro, Rw}
use Rattle.ffa_model.specs.declared.rights.Kind.{Kind}
use Rattle.ffa_model.specs.declared.rights.Kind.TheVariants.{Share, Lend, Donate}
use Rattle.ffa_model.specs.declared.descriptor.RetrieveDesc.{RetrieveDesc}
use Rattle.ffa_model.specs.Bits.{bits, is_set}
use Rattle.ffa_model.specs.DescriptorPlaces.{Versioned, in_version, access_flags_field, access_place, accesses_size, array_place, composite_field, data_code, endpoint_field, exec_code, flags_field, is_access_rest_zero, kind_code, permissions_field, receiver_count}
use Rattle.ffa_model.specs.Lists.{listed}
use Rattle.ffa_model.specs.ResponseBytes.{le}
use Rattle.ffa_model.specs.RetrieveDescriptor.{HasNames, IsNaming, Retrieve, endpoint_named, flags_but_alone, index_of, is_named_count, own_place}
use Rattle.play_trace.specs.Composed.{heading_bytes, entry_bytes, retrieve_heading, asked_of}
use Rattle.play_trace.proofs.Headings.{Fitting, headed, is_header_of, length-heading}
use Rattle.play_trace.proofs.Places.{entry_at}

-- permissions that ask for this
record Asked (p : ℕ) (level : Option Data) (exec : Bool) : Type 0 where
  data_bits : bits 1 0 p ≡ data_code level
  known : bits 3 2 p ≢ 3
  exec_bits : exec ≡ eqb (bits 3 2 p) 2
  no_more : bits 7 4 p ≡ 0

asked : (level : Option Data) (exec : Bool) → Asked (data_code level + 4 * exec_code exec) level exec
asked None true = record { data_bits = refl; known = λ e. omega arith; exec_bits = refl; no_more = refl }
asked None false = record { data_bits = refl; known = λ e. omega arith; exec_bits = refl; no_more = refl }
asked (Some Ro) true = record { data_bits = refl; known = λ e. omega arith; exec_bits = refl; no_more = refl }
asked (Some Ro) false = record { data_bits = refl; known = λ e. omega arith; exec_bits = refl; no_more = refl }
asked (Some Rw) true = record { data_bits = refl; known = λ e. omega arith; exec_bits = refl; no_more = refl }
asked (Some Rw) false = record { data_bits = refl; known = λ e. omega arith; exec_bits = refl; no_more = refl }

pub kind_few : (k : Option Kind) → 8 * kind_code k < 2 ^ 32
kind_few None = omega arith
kind_few (Some Share) = omega arith
kind_few _ = omega arith

length-entry : (version : Version) (e p c : ℕ) → length (entry_bytes version e p c) ≡ accesses_size version 1
unfolding le
length-entry Compact e p c = refl
length-entry V1_1 e p c = refl
length-entry V1_2 e p c = refl

-- ON A MACHINE OF ANY FF-A: a descriptor that names the caller alone
counted : (ffa : Ffa) (flags count : ℕ) → count ≡ 1 → is_named_count ffa flags count ≡ true
counted served.V1_1 flags count one = rw one refl
counted served.V1_2 flags count one = rw one (of (is_set 10 flags))
  where
    of : (alone : Bool) → nat_le 1 (cond alone 1 MOST_RECEIVERS) ≡ true
    of true = refl
    of false = refl

flags-asked : (ffa : Ffa) (k : Option Kind) (flags : ℕ) → flags ≡ 8 * kind_code k → flags_but_alone ffa flags ≡ 8 * kind_code k
flags-asked served.V1_1 k flags is = is
flags-asked served.V1_2 k flags is = ap (flags_but_alone served.V1_2) is ∙ of k
  where
    of : (k : Option Kind) → flags_but_alone served.V1_2 (8 * kind_code k) ≡ 8 * kind_code k
    of None = refl
    of (Some Share) = refl
    of (Some Lend) = refl
    of (Some Donate) = refl

first-place : (b : Versioned) → access_place b 0 ≡ array_place b
first-place b = of b.version
  where
    of : (version : Version) → array_place b + accesses_size version 0 ≡ array_place b
    of Compact = omega arith
    of V1_1 = omega arith
    of V1_2 = omega arith

own-first : (ffa : Ffa) (e : ℕ) (b : Versioned) → receiver_count b ≡ 1 → own_place ffa e b ≡ array_place b
own-first served.V1_1 e b one = refl
own-first served.V1_2 e b one = ap (access_place b) index ∙ first-place b
  where
    index : index_of e b ≡ 0
    index =
        ap (λ (n : ℕ). unwrap_or (position (λ x. x == e) (listed n (endpoint_named b))) 0) one
        ∙ elim (cases_Bool (endpoint_named b 0 == e)) [ inl its ↦ rw its refl | inr other ↦ rw other refl ]

names-one : (ffa : Ffa) (b : Versioned) → receiver_count b ≡ 1 → IsNaming b (array_place b) → HasNames ffa b
names-one served.V1_1 b one its = tt
names-one served.V1_2 b one its = record {
  each = λ i inside. subst (IsNaming b) (sym (ap (access_place b) (let first : i ≡ 0 = omega (arith, inside, one) in first) ∙ first-place b)) its;
  distinct = λ i j before inside. absurd (omega (arith, before, inside, one));
}

with_rest : (ffa : Ffa) (version : Version) (e : ℕ) (d : RetrieveDesc) (rest : List ℕ) → Fitting (retrieve_heading d) → e < 2 ^ 16
    → Retrieve ffa e (in_version version (heading_bytes version (retrieve_heading d) ++ (entry_bytes version e (asked_of d) 0 ++ rest))) d
with_rest ffa version e d rest fits small =
    let front = heading_bytes version (retrieve_heading d) in
    let tail = entry_bytes version e (asked_of d) 0 ++ rest in
    let b = in_version version (front ++ tail) in
    let says = headed version (retrieve_heading d) tail fits in
    let room : accesses_size version 1 ≤ length tail = omega (arith, length-append (entry_bytes version e (asked_of d) 0) rest, length-entry version e (asked_of d) 0) in
    let place : length front ≡ array_place b = length-heading version (retrieve_heading d) ∙ sym says.array in
    let entry = entry_at version front rest (array_place b) e (asked_of d) 0 place small (omega arith) in
    let own = own-first ffa e b says.count in
    let asks = subst (λ (p : ℕ). Asked p d.level d.exec) (sym (ap (permissions_field b.bytes) own ∙ entry.permissions)) (asked d.level d.exec) in
    record {
      header = is_header_of version (retrieve_heading d) tail fits room;
      attributes = inl says.attributes;
      count = counted ffa (flags_field b) (receiver_count b) says.count;
      caller = ap (endpoint_field b.bytes) own ∙ entry.endpoint;
      known_exec = asks.known;
      no_more = asks.no_more;
      access_flags = ap (access_flags_field b.bytes) own ∙ entry.flags;
      composite = ap (composite_field b.bytes) own ∙ entry.composite;
      access_reserved = ap (is_access_rest_zero version b.bytes) own ∙ entry.reserved;
      names = names-one ffa b says.count (record { flags = omega (arith, entry.flags); composite = entry.composite; reserved = entry.reserved });
      sender = sym says.sender;
      handle = sym says.handle;
      tag = sym says.tag;
      kind = flags-asked ffa d.kind (flags_field b) says.flags;
      level = asks.data_bits;
      exec = asks.exec_bits;
    }

pub retrieves : (ffa : Ffa) (version : Version) (e : ℕ) (d : RetrieveDesc) → Fitting (retrieve_heading d) → e < 2 ^ 16
    → Retrieve ffa e (in_version version (heading_bytes version (retrieve_heading d) ++ entry_bytes version e (asked_of d) 0)) d
retrieves ffa version e d fits small =
    subst (λ (l : List ℕ). Retrieve ffa e (in_version version (heading_bytes version (retrieve_heading d) ++ l)) d) (append-nil _) (with_rest ffa version e d [] fits small)
