-- SPDX-License-Identifier: MIT OR Apache-2.0
-- The conditions of descriptors in an order, and the first that bytes break: where one fails, `Flaws` says what is so.
use Rattle.std.specs.Prelude.{ℕ, zero, suc, ◌+◌, ◌*◌, ◌%◌, ◌^◌, ◌==◌, Bool, not, ◌||◌, nat_le, List, [], ◌∷◌, length, Option, Some, None, if◌then◌else◌}
use Rattle.std.specs.List.{list_all, list_any}
use Rattle.std.specs.Option.{option_or}
use Rattle.ffa_model.specs.declared.flaw.Flaw.{Flaw}
use Rattle.ffa_model.specs.declared.flaw.Flaw.TheVariants.{Header, Send, Access, Composite, Range, Retrieve, Relinquish}
use Rattle.ffa_model.specs.declared.flaw.HeaderFlaw.TheVariants.{Short, AccessSize, ArrayUnaligned, ArrayInHeader, ArrayOutside, Reserved as HeaderReserved}
use Rattle.ffa_model.specs.declared.flaw.SendFlaw.TheVariants.{Attributes, Flags, Handle, NoReceiver, ManyReceivers}
use Rattle.ffa_model.specs.declared.flaw.AccessFlaw.TheVariants.{Permissions, Flags as AccessFlags, OtherComposite, Reserved as AccessReserved, ReceiverIsSender, ReceiverTwice}
use Rattle.ffa_model.specs.declared.flaw.CompositeFlaw.TheVariants.{Outside, Unaligned, InArray, NoRange, ManyRanges, Reserved as CompositeReserved, RangesOutside, Total}
use Rattle.ffa_model.specs.declared.flaw.RangeFlaw.TheVariants.{Empty, Unaligned as RangeUnaligned, TooHigh, Reserved as RangeReserved, Overlap}
use Rattle.ffa_model.specs.declared.flaw.RetrieveFlaw.TheVariants.{Attributes as AskedAttributes, Flags as AskedFlags, AccessCount, ReceiverIsAnother, DataPermission, InstructionPermission, PermissionsReserved, AccessFlags as AskedAccessFlags, CompositeTold, AccessReserved as AskedAccessReserved}
use Rattle.ffa_model.specs.declared.flaw.RelinquishFlaw.TheVariants.{Short as RelinquishShort, Flags as RelinquishFlags, EndpointCount}
use Rattle.ffa_model.specs.declared.limits.TheConstants.{MOST_RANGES}
use Rattle.ffa_model.specs.declared.manifest.Ffa.{Ffa}
use Rattle.ffa_model.specs.declared.manifest.Ffa.TheVariants.{V1_1, V1_2}
use Rattle.ffa_model.specs.declared.rights.Kind.{Kind}
use Rattle.ffa_model.specs.Bits.{bits}
use Rattle.ffa_model.specs.Lists.{listed}
use Rattle.ffa_model.specs.DescriptorPlaces.{Versioned, u32_at, u64_at, header_size, told_access_size, is_rest_zero, sender_field, attributes_field, flags_field, handle_field, receiver_count, array_place, array_end, access_place, endpoint_field, permissions_field, access_flags_field, composite_field, is_access_rest_zero, composite_place, total_field, range_count, range_place, normal_memory}
use Rattle.ffa_model.specs.SendDescriptor.{flags_but_type, is_attributes, most_flags, most_receivers, is_grant, is_named, receivers_in, are_apart, range_in, range_end, ranges_in, page_total}
use Rattle.ffa_model.specs.RetrieveDescriptor.{asked_permissions, endpoint_named, flags_but_alone, is_named_count, own_index, own_place}

-- a condition, and the flaw where it fails
abbrev pub first_broken : List (Bool × Flaw) → Option Flaw
first_broken [] = None
first_broken (condition ∷ conditions) = if condition.0 then first_broken conditions else Some condition.1

-- the first of the flaws at the first n indexes
abbrev pub first_of : ℕ → (ℕ → Option Flaw) → Option Flaw
first_of zero flaw = None
first_of (suc n) flaw = option_or (flaw 0) (first_of n (λ i. flaw (suc i)))

-- OF A HEADER
unfoldable pub header_flaw : Versioned → Option Flaw
header_flaw descriptor =
    first_broken ((nat_le (header_size descriptor.version) (length descriptor.bytes), Header Short)
    ∷ (u32_at descriptor.bytes 24 == told_access_size descriptor.version, Header AccessSize)
    ∷ (array_place descriptor % 16 == 0, Header ArrayUnaligned)
    ∷ (nat_le (header_size descriptor.version) (array_place descriptor), Header ArrayInHeader)
    ∷ (nat_le (array_end descriptor) (length descriptor.bytes), Header ArrayOutside)
    ∷ (is_rest_zero descriptor.version descriptor.bytes, Header HeaderReserved)
    ∷ [])

-- OF A SEND of this kind, behind its header: the header's fields, the access descriptors one by one, the composite, its ranges
-- one by one, and their sum
unfoldable pub send_header_flaw : Ffa → Kind → Versioned → Option Flaw
send_header_flaw ffa kind descriptor =
    first_broken ((is_attributes ffa kind (receiver_count descriptor) (attributes_field descriptor), Send Attributes)
    ∷ (nat_le (flags_but_type ffa kind (flags_field descriptor)) (most_flags kind), Send Flags)
    ∷ (handle_field descriptor == 0, Send Handle)
    ∷ (nat_le 1 (receiver_count descriptor), Send NoReceiver)
    ∷ (nat_le (receiver_count descriptor) (most_receivers kind), Send ManyReceivers)
    ∷ [])

-- access descriptor i
unfoldable pub access_flaw : Kind → Versioned → ℕ → Option Flaw
access_flaw kind descriptor i =
    first_broken ((is_grant kind (permissions_field descriptor.bytes (access_place descriptor i)), Access i Permissions)
    ∷ (access_flags_field descriptor.bytes (access_place descriptor i) == 0, Access i AccessFlags)
    ∷ (composite_field descriptor.bytes (access_place descriptor i) == composite_place descriptor, Access i OtherComposite)
    ∷ (is_access_rest_zero descriptor.version descriptor.bytes (access_place descriptor i), Access i AccessReserved)
    ∷ (not (endpoint_field descriptor.bytes (access_place descriptor i) == sender_field descriptor), Access i ReceiverIsSender)
    ∷ (not (is_named (endpoint_field descriptor.bytes (access_place descriptor i)) (receivers_in descriptor i)), Access i ReceiverTwice)
    ∷ [])

unfoldable pub composite_flaw : Versioned → Option Flaw
composite_flaw descriptor =
    first_broken ((nat_le (range_place descriptor 0) (length descriptor.bytes), Composite Outside)
    ∷ (composite_place descriptor % 16 == 0, Composite Unaligned)
    ∷ (nat_le (array_end descriptor) (composite_place descriptor), Composite InArray)
    ∷ (nat_le 1 (range_count descriptor), Composite NoRange)
    ∷ (nat_le (range_count descriptor) MOST_RANGES, Composite ManyRanges)
    ∷ (u64_at descriptor.bytes (composite_place descriptor + 8) == 0, Composite CompositeReserved)
    ∷ (nat_le (range_place descriptor (range_count descriptor)) (length descriptor.bytes), Composite RangesOutside)
    ∷ [])

-- range i
unfoldable pub range_flaw : Versioned → ℕ → Option Flaw
range_flaw descriptor i =
    first_broken ((nat_le 1 (range_in descriptor i).pages, Range i Empty)
    ∷ ((range_in descriptor i).address % 4096 == 0, Range i RangeUnaligned)
    ∷ (nat_le (range_end (range_in descriptor i)) (2 ^ 48), Range i TooHigh)
    ∷ (u32_at descriptor.bytes (range_place descriptor i + 12) == 0, Range i RangeReserved)
    ∷ (list_all (are_apart (range_in descriptor i)) (ranges_in descriptor i), Range i Overlap)
    ∷ [])

unfoldable pub total_flaw : Versioned → Option Flaw
total_flaw descriptor = first_broken ((page_total (ranges_in descriptor (range_count descriptor)) == total_field descriptor, Composite Total) ∷ [])

-- the first condition of a send descriptor of this kind that the bytes break
unfoldable pub send_flaw : Ffa → Kind → Versioned → Option Flaw
send_flaw ffa kind descriptor =
    option_or (header_flaw descriptor)
    (option_or (send_header_flaw ffa kind descriptor)
    (option_or (first_of (receiver_count descriptor) (access_flaw kind descriptor))
    (option_or (composite_flaw descriptor)
    (option_or (first_of (range_count descriptor) (range_flaw descriptor)) (total_flaw descriptor)))))

-- OF A RETRIEVE for this endpoint: the header's fields, the access descriptor of the caller, and then whom all name
unfoldable pub asked_header_flaw : Ffa → Versioned → Option Flaw
asked_header_flaw ffa descriptor =
    first_broken (((attributes_field descriptor == 0) || (attributes_field descriptor == normal_memory), Retrieve 0 AskedAttributes)
    ∷ (flags_but_alone ffa (flags_field descriptor) == 8 * bits 4 3 (flags_field descriptor), Retrieve 0 AskedFlags)
    ∷ (is_named_count ffa (flags_field descriptor) (receiver_count descriptor), Retrieve 0 AccessCount)
    ∷ [])

unfoldable pub asked_access_flaw : Ffa → ℕ → Versioned → Option Flaw
asked_access_flaw ffa endpoint descriptor =
    first_broken ((endpoint_field descriptor.bytes (own_place ffa endpoint descriptor) == endpoint, Retrieve (own_index ffa endpoint descriptor) ReceiverIsAnother)
    ∷ (not (bits 1 0 (asked_permissions ffa endpoint descriptor) == 3), Retrieve (own_index ffa endpoint descriptor) DataPermission)
    ∷ (not (bits 3 2 (asked_permissions ffa endpoint descriptor) == 3), Retrieve (own_index ffa endpoint descriptor) InstructionPermission)
    ∷ (bits 7 4 (asked_permissions ffa endpoint descriptor) == 0, Retrieve (own_index ffa endpoint descriptor) PermissionsReserved)
    ∷ (access_flags_field descriptor.bytes (own_place ffa endpoint descriptor) == 0, Retrieve (own_index ffa endpoint descriptor) AskedAccessFlags)
    ∷ (composite_field descriptor.bytes (own_place ffa endpoint descriptor) == 0, Retrieve (own_index ffa endpoint descriptor) CompositeTold)
    ∷ (is_access_rest_zero descriptor.version descriptor.bytes (own_place ffa endpoint descriptor), Retrieve (own_index ffa endpoint descriptor) AskedAccessReserved)
    ∷ [])

-- access descriptor i
unfoldable pub naming_flaw : Versioned → ℕ → Option Flaw
naming_flaw descriptor i =
    first_broken ((nat_le (access_flags_field descriptor.bytes (access_place descriptor i)) 1, Access i AccessFlags)
    ∷ (composite_field descriptor.bytes (access_place descriptor i) == 0, Access i OtherComposite)
    ∷ (is_access_rest_zero descriptor.version descriptor.bytes (access_place descriptor i), Access i AccessReserved)
    ∷ (not (list_any (λ e. e == endpoint_named descriptor i) (listed i (endpoint_named descriptor))), Access i ReceiverTwice)
    ∷ [])

unfoldable pub names_flaw : Ffa → Versioned → Option Flaw
names_flaw V1_1 descriptor = None
names_flaw V1_2 descriptor = first_of (receiver_count descriptor) (naming_flaw descriptor)

unfoldable pub retrieve_flaw : Ffa → ℕ → Versioned → Option Flaw
retrieve_flaw ffa endpoint descriptor =
    option_or (header_flaw descriptor)
    (option_or (asked_header_flaw ffa descriptor)
    (option_or (asked_access_flaw ffa endpoint descriptor) (names_flaw ffa descriptor)))

-- OF A RELINQUISH
unfoldable pub relinquish_flaw : List ℕ → Option Flaw
relinquish_flaw bytes =
    first_broken ((nat_le 18 (length bytes), Relinquish RelinquishShort)
    ∷ (nat_le (u32_at bytes 8) 1, Relinquish RelinquishFlags)
    ∷ (u32_at bytes 12 == 1, Relinquish EndpointCount)
    ∷ [])
