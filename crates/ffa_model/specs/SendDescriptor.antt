-- SPDX-License-Identifier: MIT OR Apache-2.0
-- Send descriptors: which bytes offer memory, and what they say. Numbers are whole and don't wrap.
use Rattle.std.specs.Prelude.{◌≡◌, ◌≢◌, ◌≤◌, ◌<◌, ◌⊎◌, ℕ, ◌+◌, ◌-◌, ◌*◌, ◌%◌, ◌^◌, ◌==◌, Bool, true, false, not, ◌&&◌, ◌||◌, nat_le, List, length, sum_by, Option, Some, None, if◌then◌else◌}
use Rattle.std.specs.List.{list_any, list_all}
use Rattle.ffa_model.specs.declared.limits.TheConstants.{MOST_RANGES, MOST_RECEIVERS}
use Rattle.ffa_model.specs.declared.manifest.Ffa.{Ffa}
use Rattle.ffa_model.specs.declared.manifest.Ffa.TheVariants.{V1_1, V1_2}
use Rattle.ffa_model.specs.declared.rights.Kind.{Kind}
use Rattle.ffa_model.specs.declared.rights.Kind.TheVariants.{Share, Lend, Donate}
use Rattle.ffa_model.specs.declared.transaction.Range.{Range}
use Rattle.ffa_model.specs.declared.transaction.Receiver.{Receiver}
use Rattle.ffa_model.specs.declared.descriptor.SendDesc.{SendDesc}
use Rattle.ffa_model.specs.Bits.{bits}
use Rattle.ffa_model.specs.Numbers.{Identifier}
use Rattle.ffa_model.specs.Lists.{listed}
use Rattle.ffa_model.specs.DescriptorPlaces.{Versioned, u32_at, u64_at, sender_field, attributes_field, flags_field, handle_field, tag_field, receiver_count, access_place, array_end, IsHeader, is_header, endpoint_field, permissions_field, access_flags_field, composite_field, is_access_rest_zero, composite_place, total_field, range_count, range_place, data_of, kind_code, normal_memory}

-- what a send descriptor says
pub record SendRecord : Type 0 where
  pub sender : Identifier
  pub zero : Bool
  pub tag : ℕ
  pub receivers : List Receiver
  pub ranges : List Range

abbrev pub send_record : SendDesc → SendRecord
send_record d =
    record { sender = d.sender.0; zero = d.zero; tag = d.tag; receivers = d.receivers.items; ranges = d.ranges.items }

-- whom the access descriptor at a place names, and which range stands at a place
abbrev pub receiver_at : List ℕ → ℕ → Receiver
receiver_at bytes at =
    record { endpoint = record { 0 = endpoint_field bytes at }; grant = data_of (permissions_field bytes at) }

abbrev pub range_at : List ℕ → ℕ → Range
range_at bytes at = record { address = u64_at bytes at; pages = u32_at bytes (at + 8) }

-- receiver i and range i, and the first n of them
abbrev pub receiver_in : Versioned → ℕ → Receiver
receiver_in descriptor i = receiver_at descriptor.bytes (access_place descriptor i)

abbrev pub range_in : Versioned → ℕ → Range
range_in descriptor i = range_at descriptor.bytes (range_place descriptor i)

abbrev pub receivers_in : Versioned → ℕ → List Receiver
receivers_in descriptor n = listed n (receiver_in descriptor)

abbrev pub ranges_in : Versioned → ℕ → List Range
ranges_in descriptor n = listed n (range_in descriptor)

abbrev pub range_end : Range → ℕ
range_end range = range.address + 4096 * range.pages

abbrev pub page_total : List Range → ℕ
page_total ranges = sum_by (λ (r : Range). r.pages) ranges

-- bit 0 of the flags asks for zeros, but not in a share
abbrev pub most_flags : Kind → ℕ
most_flags Share = 0
most_flags kind = 1

abbrev pub most_receivers : Kind → ℕ
most_receivers Donate = 1
most_receivers kind = MOST_RECEIVERS

-- a share and a lend to several say what memory it is; a donate and a lend to one leave that to the receiver
abbrev pub attributes_of : Kind → ℕ → ℕ
attributes_of Share count = normal_memory
attributes_of Lend count = if count == 1 then 0 else normal_memory
attributes_of Donate count = 0

-- on a machine of FF-A 1.2 each lend may leave it, and may say it
abbrev pub is_attributes : Ffa → Kind → ℕ → ℕ → Bool
is_attributes V1_2 Lend count attributes = (attributes == 0) || (attributes == normal_memory)
is_attributes ffa kind count attributes = attributes == attributes_of kind count

-- what the flags say beside the type of the transaction in bits 4:3: on a machine of FF-A 1.2 these may name the type, which the
-- call has
abbrev pub flags_but_type : Ffa → Kind → ℕ → ℕ
flags_but_type V1_1 kind flags = flags
flags_but_type V1_2 kind flags = if bits 4 3 flags == kind_code (Some kind) then flags - 8 * kind_code (Some kind) else flags

-- a share and a lend grant a data right; a donate grants none. Neither says anything of instructions
abbrev pub IsGrant : Kind → ℕ → Type 0
IsGrant Share permissions = (permissions ≡ 1) ⊎ (permissions ≡ 2)
IsGrant Lend permissions = (permissions ≡ 1) ⊎ (permissions ≡ 2)
IsGrant Donate permissions = permissions ≡ 0

-- the access descriptor at a place tells the one composite, and names another endpoint than the sender
pub record IsAccess (kind : Kind) (descriptor : Versioned) (at : ℕ) : Type 0 where
  pub permissions : IsGrant kind (permissions_field descriptor.bytes at)
  pub flags : access_flags_field descriptor.bytes at ≡ 0
  pub composite : composite_field descriptor.bytes at ≡ composite_place descriptor
  pub reserved : is_access_rest_zero descriptor.version descriptor.bytes at ≡ true
  pub other : endpoint_field descriptor.bytes at ≢ sender_field descriptor

-- the composite stands behind the access descriptors, and inside the bytes with its ranges
pub record IsComposite (descriptor : Versioned) : Type 0 where
  pub aligned : composite_place descriptor % 16 ≡ 0
  pub behind : array_end descriptor ≤ composite_place descriptor
  pub least : 1 ≤ range_count descriptor
  pub most : range_count descriptor ≤ MOST_RANGES
  pub reserved : u64_at descriptor.bytes (composite_place descriptor + 8) ≡ 0
  pub inside : range_place descriptor (range_count descriptor) ≤ length descriptor.bytes

-- the range at a place has whole pages, at least one, and ends at or below 2 ^ 48
pub record IsRange (bytes : List ℕ) (at : ℕ) : Type 0 where
  pub least : 1 ≤ (range_at bytes at).pages
  pub aligned : (range_at bytes at).address % 4096 ≡ 0
  pub below : range_end (range_at bytes at) ≤ 2 ^ 48
  pub reserved : u32_at bytes (at + 12) ≡ 0

abbrev pub AreApart : Range → Range → Type 0
AreApart range q = (range_end range ≤ q.address) ⊎ (range_end q ≤ range.address)

-- The bytes are a send descriptor of this kind for a machine of this FF-A, and say this. All other bytes are free
pub record Send (ffa : Ffa) (kind : Kind) (descriptor : Versioned) (send : SendRecord) : Type 0 where
  pub header : IsHeader descriptor
  pub attributes : is_attributes ffa kind (receiver_count descriptor) (attributes_field descriptor) ≡ true
  pub flags : flags_but_type ffa kind (flags_field descriptor) ≤ most_flags kind
  pub handle : handle_field descriptor ≡ 0
  pub least : 1 ≤ receiver_count descriptor
  pub most : receiver_count descriptor ≤ most_receivers kind
  pub accesses : (i : ℕ) → i < receiver_count descriptor → IsAccess kind descriptor (access_place descriptor i)
  pub distinct :
      (i j : ℕ) → j < i → i < receiver_count descriptor → endpoint_field descriptor.bytes (access_place descriptor j) ≢ endpoint_field descriptor.bytes (access_place descriptor i)
  pub composite : IsComposite descriptor
  pub each : (i : ℕ) → i < range_count descriptor → IsRange descriptor.bytes (range_place descriptor i)
  pub apart :
      (i j : ℕ) → j < i → i < range_count descriptor → AreApart (range_in descriptor i) (range_in descriptor j)
  pub total : page_total (ranges_in descriptor (range_count descriptor)) ≡ total_field descriptor
  pub sender : send.sender ≡ sender_field descriptor
  pub zero : send.zero ≡ (flags_but_type ffa kind (flags_field descriptor) == 1)
  pub tag : send.tag ≡ tag_field descriptor
  pub receivers : send.receivers ≡ receivers_in descriptor (receiver_count descriptor)
  pub ranges : send.ranges ≡ ranges_in descriptor (range_count descriptor)

-- THE SAME, computed: what the fields say, and whether all conditions hold

abbrev pub is_grant : Kind → ℕ → Bool
is_grant Donate permissions = permissions == 0
is_grant kind permissions = (permissions == 1) || (permissions == 2)

abbrev pub is_access : Kind → Versioned → ℕ → Bool
is_access kind descriptor at =
    is_grant kind (permissions_field descriptor.bytes at)
    && (access_flags_field descriptor.bytes at == 0)
    && (composite_field descriptor.bytes at == composite_place descriptor)
    && is_access_rest_zero descriptor.version descriptor.bytes at
    && not (endpoint_field descriptor.bytes at == sender_field descriptor)

abbrev pub is_named : ℕ → List Receiver → Bool
is_named endpoint receivers = list_any (λ (r : Receiver). r.endpoint.0 == endpoint) receivers

-- access descriptor i is one, and names nobody that an earlier one names
abbrev pub is_access_beside : Kind → Versioned → ℕ → Bool
is_access_beside kind descriptor i =
    is_access kind descriptor (access_place descriptor i)
    && not (is_named (endpoint_field descriptor.bytes (access_place descriptor i)) (receivers_in descriptor i))

abbrev pub is_composite : Versioned → Bool
is_composite descriptor =
    (composite_place descriptor % 16 == 0)
    && nat_le (array_end descriptor) (composite_place descriptor)
    && nat_le 1 (range_count descriptor)
    && nat_le (range_count descriptor) MOST_RANGES
    && (u64_at descriptor.bytes (composite_place descriptor + 8) == 0)
    && nat_le (range_place descriptor (range_count descriptor)) (length descriptor.bytes)

abbrev pub is_range : List ℕ → ℕ → Bool
is_range bytes at =
    nat_le 1 (range_at bytes at).pages
    && ((range_at bytes at).address % 4096 == 0)
    && nat_le (range_end (range_at bytes at)) (2 ^ 48)
    && (u32_at bytes (at + 12) == 0)

abbrev pub are_apart : Range → Range → Bool
are_apart range q = nat_le (range_end range) q.address || nat_le (range_end q) range.address

-- range i is one, and has no page of an earlier one
abbrev pub is_range_beside : Versioned → ℕ → Bool
is_range_beside descriptor i =
    is_range descriptor.bytes (range_place descriptor i)
    && list_all (are_apart (range_in descriptor i)) (ranges_in descriptor i)

-- whether a test holds at each of the first n indexes
abbrev pub holds_at_each : (ℕ → Bool) → ℕ → Bool
holds_at_each test n = list_all (λ (t : Bool). t) (listed n test)

unfoldable pub is_send_header : Ffa → Kind → Versioned → Bool
is_send_header ffa kind descriptor =
    is_attributes ffa kind (receiver_count descriptor) (attributes_field descriptor)
    && nat_le (flags_but_type ffa kind (flags_field descriptor)) (most_flags kind)
    && (handle_field descriptor == 0)
    && nat_le 1 (receiver_count descriptor)
    && nat_le (receiver_count descriptor) (most_receivers kind)

-- the lists of a send whose counts are good
unfoldable pub is_send_body : Kind → Versioned → Bool
is_send_body kind descriptor =
    holds_at_each (is_access_beside kind descriptor) (receiver_count descriptor)
    && holds_at_each (is_range_beside descriptor) (range_count descriptor)
    && (page_total (ranges_in descriptor (range_count descriptor)) == total_field descriptor)

abbrev pub send_in : Ffa → Kind → Versioned → SendRecord
send_in ffa kind descriptor =
    record {
      sender = sender_field descriptor;
      zero = flags_but_type ffa kind (flags_field descriptor) == 1;
      tag = tag_field descriptor;
      receivers = receivers_in descriptor (receiver_count descriptor);
      ranges = ranges_in descriptor (range_count descriptor);
    }

-- the counts are judged before a list is
abbrev pub send_counted : Bool → Ffa → Kind → Versioned → Option SendRecord
send_counted false ffa kind descriptor = None
send_counted true ffa kind descriptor = if is_send_body kind descriptor then Some (send_in ffa kind descriptor) else None

-- what a send descriptor of this kind says, if the bytes are one
unfoldable pub send_of : Ffa → Kind → Versioned → Option SendRecord
send_of ffa kind descriptor =
    send_counted (is_header descriptor && is_send_header ffa kind descriptor && is_composite descriptor) ffa kind descriptor
