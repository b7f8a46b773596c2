-- SPDX-License-Identifier: MIT OR Apache-2.0
-- Retrieve descriptors: which bytes ask for memory that was offered, and what they say.
use Rattle.std.specs.Prelude.{◌≡◌, ◌≢◌, ◌≤◌, ◌<◌, ◌⊎◌, ℕ, ◌-◌, ◌*◌, ◌^◌, ◌==◌, Bool, true, not, ◌&&◌, ◌||◌, nat_le, List, length, Option, Some, None, position, unwrap_or, if◌then◌else◌}
use Rattle.std.specs.List.{list_all, list_any}
use Rattle.ffa_model.specs.declared.descriptor.RetrieveDesc.{RetrieveDesc}
use Rattle.ffa_model.specs.declared.limits.TheConstants.{MOST_RECEIVERS}
use Rattle.ffa_model.specs.declared.manifest.Ffa.{Ffa}
use Rattle.ffa_model.specs.declared.manifest.Ffa.TheVariants.{V1_1, V1_2}
use Rattle.ffa_model.specs.declared.transaction.Receiver.{Receiver}
use Rattle.ffa_model.specs.Bits.{bits, is_set}
use Rattle.ffa_model.specs.Lists.{listed}
use Rattle.ffa_model.specs.DescriptorPlaces.{Versioned, sender_field, attributes_field, flags_field, handle_field, tag_field, receiver_count, array_place, access_place, IsHeader, is_header, endpoint_field, permissions_field, access_flags_field, composite_field, is_access_rest_zero, data_code, data_of, kind_code, kind_of, normal_memory}
use Rattle.ffa_model.specs.SendDescriptor.{holds_at_each, is_named}

-- WHOM IT NAMES. On a machine of FF-A 1.1 a retrieve has one access descriptor, which names the caller. On one of FF-A 1.2 it may
-- name other receivers too; with bit 10 of the flags it names the caller alone, however many receivers there are

abbrev pub flags_but_alone : Ffa → ℕ → ℕ
flags_but_alone V1_1 flags = flags
flags_but_alone V1_2 flags = if is_set 10 flags then flags - 2 ^ 10 else flags

abbrev pub is_named_count : Ffa → ℕ → ℕ → Bool
is_named_count V1_1 flags count = count == 1
is_named_count V1_2 flags count = nat_le 1 count && nat_le count (if is_set 10 flags then 1 else MOST_RECEIVERS)

-- the endpoint that access descriptor i names, and those that all name
abbrev pub endpoint_named : Versioned → ℕ → ℕ
endpoint_named descriptor i = endpoint_field descriptor.bytes (access_place descriptor i)

abbrev pub endpoints_named : Versioned → List ℕ
endpoints_named descriptor = listed (receiver_count descriptor) (endpoint_named descriptor)

-- the index of the access descriptor that names the caller; 0 where none does
abbrev pub index_of : ℕ → Versioned → ℕ
index_of endpoint descriptor = unwrap_or (position (λ e. e == endpoint) (endpoints_named descriptor)) 0

abbrev pub own_index : Ffa → ℕ → Versioned → ℕ
own_index V1_1 endpoint descriptor = 0
own_index V1_2 endpoint descriptor = index_of endpoint descriptor

-- the place of the access descriptor that says what the caller asks for
abbrev pub own_place : Ffa → ℕ → Versioned → ℕ
own_place V1_1 endpoint descriptor = array_place descriptor
own_place V1_2 endpoint descriptor = access_place descriptor (index_of endpoint descriptor)

-- An access descriptor that names a receiver. Bit 0 of its flags says that this receiver doesn't retrieve by this call; its
-- permissions are free, except the caller's
pub record IsNaming (descriptor : Versioned) (at : ℕ) : Type 0 where
  pub flags : access_flags_field descriptor.bytes at ≤ 1
  pub composite : composite_field descriptor.bytes at ≡ 0
  pub reserved : is_access_rest_zero descriptor.version descriptor.bytes at ≡ true

pub record AreNaming (descriptor : Versioned) : Type 0 where
  pub each : (i : ℕ) → i < receiver_count descriptor → IsNaming descriptor (access_place descriptor i)
  pub distinct : (i j : ℕ) → j < i → i < receiver_count descriptor → endpoint_named descriptor j ≢ endpoint_named descriptor i

abbrev pub HasNames : Ffa → Versioned → Type 0
HasNames V1_1 descriptor = Unit {0}
HasNames V1_2 descriptor = AreNaming descriptor

-- whether these name one endpoint alone, or exactly these receivers
abbrev pub are_receivers : List ℕ → List Receiver → Bool
are_receivers named receivers =
    length named == 1
    || (list_all (λ e. is_named e receivers) named
    && list_all (λ (r : Receiver). list_any (λ e. e == r.endpoint.0) named) receivers)

-- the permissions that the caller asks for
abbrev pub asked_permissions : Ffa → ℕ → Versioned → ℕ
asked_permissions ffa endpoint descriptor = permissions_field descriptor.bytes (own_place ffa endpoint descriptor)

-- The bytes are a retrieve descriptor for this endpoint, on a machine of this FF-A, and say this. All other bytes are free
pub record Retrieve (ffa : Ffa) (endpoint : ℕ) (descriptor : Versioned) (retrieve : RetrieveDesc) : Type 0 where
  pub header : IsHeader descriptor
  pub attributes : (attributes_field descriptor ≡ 0) ⊎ (attributes_field descriptor ≡ normal_memory)
  pub count : is_named_count ffa (flags_field descriptor) (receiver_count descriptor) ≡ true
  pub caller : endpoint_field descriptor.bytes (own_place ffa endpoint descriptor) ≡ endpoint
  pub known_exec : bits 3 2 (asked_permissions ffa endpoint descriptor) ≢ 3
  pub no_more : bits 7 4 (asked_permissions ffa endpoint descriptor) ≡ 0
  pub access_flags : access_flags_field descriptor.bytes (own_place ffa endpoint descriptor) ≡ 0
  pub composite : composite_field descriptor.bytes (own_place ffa endpoint descriptor) ≡ 0
  pub access_reserved :
      is_access_rest_zero descriptor.version descriptor.bytes (own_place ffa endpoint descriptor) ≡ true
  pub names : HasNames ffa descriptor
  pub sender : retrieve.sender.0 ≡ sender_field descriptor
  pub handle : retrieve.handle ≡ handle_field descriptor
  pub tag : retrieve.tag ≡ tag_field descriptor
  pub kind : flags_but_alone ffa (flags_field descriptor) ≡ 8 * kind_code retrieve.kind
  pub level : bits 1 0 (asked_permissions ffa endpoint descriptor) ≡ data_code retrieve.level
  pub exec : retrieve.exec ≡ (bits 3 2 (asked_permissions ffa endpoint descriptor) == 2)

-- THE SAME, computed

abbrev pub retrieve_in : Ffa → ℕ → Versioned → RetrieveDesc
retrieve_in ffa endpoint descriptor =
    record {
      sender = record { 0 = sender_field descriptor };
      handle = handle_field descriptor;
      tag = tag_field descriptor;
      kind = kind_of (bits 4 3 (flags_field descriptor));
      level = data_of (bits 1 0 (asked_permissions ffa endpoint descriptor));
      exec = bits 3 2 (asked_permissions ffa endpoint descriptor) == 2;
    }

unfoldable pub is_retrieve_header : Ffa → Versioned → Bool
is_retrieve_header ffa descriptor =
    ((attributes_field descriptor == 0) || (attributes_field descriptor == normal_memory))
    && (flags_but_alone ffa (flags_field descriptor) == 8 * bits 4 3 (flags_field descriptor))
    && is_named_count ffa (flags_field descriptor) (receiver_count descriptor)

unfoldable pub is_retrieve_access : Ffa → ℕ → Versioned → Bool
is_retrieve_access ffa endpoint descriptor =
    (endpoint_field descriptor.bytes (own_place ffa endpoint descriptor) == endpoint)
    && not (bits 1 0 (asked_permissions ffa endpoint descriptor) == 3)
    && not (bits 3 2 (asked_permissions ffa endpoint descriptor) == 3)
    && (bits 7 4 (asked_permissions ffa endpoint descriptor) == 0)
    && (access_flags_field descriptor.bytes (own_place ffa endpoint descriptor) == 0)
    && (composite_field descriptor.bytes (own_place ffa endpoint descriptor) == 0)
    && is_access_rest_zero descriptor.version descriptor.bytes (own_place ffa endpoint descriptor)

-- access descriptor i names a receiver, whom no earlier one names
abbrev pub is_naming : Versioned → ℕ → Bool
is_naming descriptor i =
    nat_le (access_flags_field descriptor.bytes (access_place descriptor i)) 1
    && (composite_field descriptor.bytes (access_place descriptor i) == 0)
    && is_access_rest_zero descriptor.version descriptor.bytes (access_place descriptor i)
    && not (list_any (λ e. e == endpoint_named descriptor i) (listed i (endpoint_named descriptor)))

unfoldable pub has_names : Ffa → Versioned → Bool
has_names V1_1 descriptor = true
has_names V1_2 descriptor = holds_at_each (is_naming descriptor) (receiver_count descriptor)

-- what a retrieve descriptor for this endpoint says, if the bytes are one
unfoldable pub retrieve_of : Ffa → ℕ → Versioned → Option RetrieveDesc
retrieve_of ffa endpoint descriptor =
    if is_header descriptor && is_retrieve_header ffa descriptor && is_retrieve_access ffa endpoint descriptor && has_names ffa descriptor
    then Some (retrieve_in ffa endpoint descriptor)
    else None
