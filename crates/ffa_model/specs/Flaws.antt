-- SPDX-License-Identifier: MIT OR Apache-2.0
-- Which condition of a descriptor bytes break: each line is the negation of one condition of the relations.
use Rattle.std.specs.Prelude.{◌≡◌, ◌≢◌, ◌<◌, ℕ, ◌+◌, ◌*◌, ◌%◌, ◌^◌, false, List, length}
use Rattle.ffa_model.specs.declared.flaw.Flaw.{Flaw}
use Rattle.ffa_model.specs.declared.flaw.Flaw.TheVariants.{Header, Send, Access, Composite, Range, Retrieve, Relinquish}
use Rattle.ffa_model.specs.declared.flaw.HeaderFlaw.{HeaderFlaw}
use Rattle.ffa_model.specs.declared.flaw.HeaderFlaw.TheVariants.{Short, AccessSize, ArrayUnaligned, ArrayInHeader, ArrayOutside, Reserved as HeaderReserved}
use Rattle.ffa_model.specs.declared.flaw.SendFlaw.{SendFlaw}
use Rattle.ffa_model.specs.declared.flaw.SendFlaw.TheVariants.{Attributes, Flags, Handle, NoReceiver, ManyReceivers}
use Rattle.ffa_model.specs.declared.flaw.AccessFlaw.{AccessFlaw}
use Rattle.ffa_model.specs.declared.flaw.AccessFlaw.TheVariants.{Permissions, Flags as AccessFlags, OtherComposite, Reserved as AccessReserved, ReceiverIsSender, ReceiverTwice}
use Rattle.ffa_model.specs.declared.flaw.CompositeFlaw.{CompositeFlaw}
use Rattle.ffa_model.specs.declared.flaw.CompositeFlaw.TheVariants.{Outside, Unaligned, InArray, NoRange, ManyRanges, Reserved as CompositeReserved, RangesOutside, Total}
use Rattle.ffa_model.specs.declared.flaw.RangeFlaw.{RangeFlaw}
use Rattle.ffa_model.specs.declared.flaw.RangeFlaw.TheVariants.{Empty, Unaligned as RangeUnaligned, TooHigh, Reserved as RangeReserved, Overlap}
use Rattle.ffa_model.specs.declared.flaw.RetrieveFlaw.{RetrieveFlaw}
use Rattle.ffa_model.specs.declared.flaw.RetrieveFlaw.TheVariants.{Attributes as AskedAttributes, Flags as AskedFlags, AccessCount, ReceiverIsAnother, DataPermission, InstructionPermission, PermissionsReserved, AccessFlags as AskedAccessFlags, CompositeTold, AccessReserved as AskedAccessReserved, NotZero}
use Rattle.ffa_model.specs.declared.flaw.RelinquishFlaw.{RelinquishFlaw}
use Rattle.ffa_model.specs.declared.flaw.RelinquishFlaw.TheVariants.{Short as RelinquishShort, Flags as RelinquishFlags, EndpointCount}
use Rattle.ffa_model.specs.declared.limits.TheConstants.{MOST_RANGES}
use Rattle.ffa_model.specs.declared.manifest.Ffa.{Ffa}
use Rattle.ffa_model.specs.declared.manifest.Ffa.TheVariants.{V1_1, V1_2}
use Rattle.ffa_model.specs.declared.rights.Kind.{Kind}
use Rattle.ffa_model.specs.Bits.{bits}
use Rattle.ffa_model.specs.DescriptorPlaces.{Versioned, u32_at, u64_at, header_size, told_access_size, is_rest_zero, sender_field, attributes_field, flags_field, handle_field, receiver_count, array_place, array_end, access_place, endpoint_field, permissions_field, access_flags_field, composite_field, is_access_rest_zero, composite_place, total_field, range_count, range_place, normal_memory}
use Rattle.ffa_model.specs.SendDescriptor.{flags_but_type, is_attributes, most_flags, most_receivers, IsGrant, AreApart, range_in, range_end, ranges_in, page_total}
use Rattle.ffa_model.specs.RetrieveDescriptor.{asked_permissions, endpoint_named, flags_but_alone, is_named_count, own_place}

-- `IsHeader`
abbrev pub HeaderBreaks : Versioned → HeaderFlaw → Type 0
HeaderBreaks descriptor Short = length descriptor.bytes < header_size descriptor.version
HeaderBreaks descriptor AccessSize = u32_at descriptor.bytes 24 ≢ told_access_size descriptor.version
HeaderBreaks descriptor ArrayUnaligned = array_place descriptor % 16 ≢ 0
HeaderBreaks descriptor ArrayInHeader = array_place descriptor < header_size descriptor.version
HeaderBreaks descriptor ArrayOutside = length descriptor.bytes < array_end descriptor
HeaderBreaks descriptor HeaderReserved = is_rest_zero descriptor.version descriptor.bytes ≡ false

-- `Send`, of the header's fields
abbrev pub SendHeaderBreaks : Ffa → Kind → Versioned → SendFlaw → Type 0
SendHeaderBreaks ffa kind descriptor Attributes =
    is_attributes ffa kind (receiver_count descriptor) (attributes_field descriptor) ≡ false
SendHeaderBreaks ffa kind descriptor Flags = most_flags kind < flags_but_type ffa kind (flags_field descriptor)
SendHeaderBreaks ffa kind descriptor Handle = handle_field descriptor ≢ 0
SendHeaderBreaks ffa kind descriptor NoReceiver = receiver_count descriptor < 1
SendHeaderBreaks ffa kind descriptor ManyReceivers = most_receivers kind < receiver_count descriptor

-- `IsAccess` and `distinct`, of access descriptor i
abbrev pub AccessBreaks : Kind → Versioned → ℕ → AccessFlaw → Type 0
AccessBreaks kind descriptor i Permissions =
    IsGrant kind (permissions_field descriptor.bytes (access_place descriptor i)) → ⊥
AccessBreaks kind descriptor i AccessFlags = access_flags_field descriptor.bytes (access_place descriptor i) ≢ 0
AccessBreaks kind descriptor i OtherComposite =
    composite_field descriptor.bytes (access_place descriptor i) ≢ composite_place descriptor
AccessBreaks kind descriptor i AccessReserved = is_access_rest_zero descriptor.version descriptor.bytes (access_place descriptor i) ≡ false
AccessBreaks kind descriptor i ReceiverIsSender =
    endpoint_field descriptor.bytes (access_place descriptor i) ≡ sender_field descriptor
AccessBreaks kind descriptor i ReceiverTwice =
    (j : ℕ) × (j < i) × (endpoint_field descriptor.bytes (access_place descriptor j) ≡ endpoint_field descriptor.bytes (access_place descriptor i))

-- `IsComposite` and `total`. Of `inside` there are two: the composite itself, and its ranges
abbrev pub CompositeBreaks : Versioned → CompositeFlaw → Type 0
CompositeBreaks descriptor Outside = length descriptor.bytes < range_place descriptor 0
CompositeBreaks descriptor Unaligned = composite_place descriptor % 16 ≢ 0
CompositeBreaks descriptor InArray = composite_place descriptor < array_end descriptor
CompositeBreaks descriptor NoRange = range_count descriptor < 1
CompositeBreaks descriptor ManyRanges = MOST_RANGES < range_count descriptor
CompositeBreaks descriptor CompositeReserved = u64_at descriptor.bytes (composite_place descriptor + 8) ≢ 0
CompositeBreaks descriptor RangesOutside = length descriptor.bytes < range_place descriptor (range_count descriptor)
CompositeBreaks descriptor Total = page_total (ranges_in descriptor (range_count descriptor)) ≢ total_field descriptor

-- `IsRange` and `apart`, of range i
abbrev pub RangeBreaks : Versioned → ℕ → RangeFlaw → Type 0
RangeBreaks descriptor i Empty = (range_in descriptor i).pages < 1
RangeBreaks descriptor i RangeUnaligned = (range_in descriptor i).address % 4096 ≢ 0
RangeBreaks descriptor i TooHigh = 2 ^ 48 < range_end (range_in descriptor i)
RangeBreaks descriptor i RangeReserved = u32_at descriptor.bytes (range_place descriptor i + 12) ≢ 0
RangeBreaks descriptor i Overlap = (j : ℕ) × (j < i) × (AreApart (range_in descriptor i) (range_in descriptor j) → ⊥)

-- The bytes break this condition of a send descriptor of this kind
abbrev pub SendBreaks : Ffa → Kind → Versioned → Flaw → Type 0
SendBreaks ffa kind descriptor (Header flaw) = HeaderBreaks descriptor flaw
SendBreaks ffa kind descriptor (Send flaw) = SendHeaderBreaks ffa kind descriptor flaw
SendBreaks ffa kind descriptor (Access i flaw) = (i < receiver_count descriptor) × AccessBreaks kind descriptor i flaw
SendBreaks ffa kind descriptor (Composite flaw) = CompositeBreaks descriptor flaw
SendBreaks ffa kind descriptor (Range i flaw) = (i < range_count descriptor) × RangeBreaks descriptor i flaw
SendBreaks ffa kind descriptor (Retrieve i flaw) = ⊥
SendBreaks ffa kind descriptor (Relinquish flaw) = ⊥

-- `Retrieve`, behind the header
abbrev pub AskedBreaks : Ffa → ℕ → Versioned → RetrieveFlaw → Type 0
AskedBreaks ffa endpoint descriptor AskedAttributes =
    (attributes_field descriptor ≢ 0) × (attributes_field descriptor ≢ normal_memory)
AskedBreaks ffa endpoint descriptor AskedFlags =
    flags_but_alone ffa (flags_field descriptor) ≢ 8 * bits 4 3 (flags_field descriptor)
AskedBreaks ffa endpoint descriptor AccessCount =
    is_named_count ffa (flags_field descriptor) (receiver_count descriptor) ≡ false
AskedBreaks ffa endpoint descriptor ReceiverIsAnother =
    endpoint_field descriptor.bytes (own_place ffa endpoint descriptor) ≢ endpoint
AskedBreaks ffa endpoint descriptor DataPermission = bits 1 0 (asked_permissions ffa endpoint descriptor) ≡ 3
AskedBreaks ffa endpoint descriptor InstructionPermission = bits 3 2 (asked_permissions ffa endpoint descriptor) ≡ 3
AskedBreaks ffa endpoint descriptor PermissionsReserved = bits 7 4 (asked_permissions ffa endpoint descriptor) ≢ 0
AskedBreaks ffa endpoint descriptor AskedAccessFlags =
    access_flags_field descriptor.bytes (own_place ffa endpoint descriptor) ≢ 0
AskedBreaks ffa endpoint descriptor CompositeTold =
    composite_field descriptor.bytes (own_place ffa endpoint descriptor) ≢ 0
AskedBreaks ffa endpoint descriptor AskedAccessReserved =
    is_access_rest_zero descriptor.version descriptor.bytes (own_place ffa endpoint descriptor) ≡ false
AskedBreaks ffa endpoint descriptor NotZero = ⊥

-- `IsNaming` and `distinct`, of access descriptor i
abbrev pub NamingBreaks : Versioned → ℕ → AccessFlaw → Type 0
NamingBreaks descriptor i AccessFlags = 1 < access_flags_field descriptor.bytes (access_place descriptor i)
NamingBreaks descriptor i OtherComposite = composite_field descriptor.bytes (access_place descriptor i) ≢ 0
NamingBreaks descriptor i AccessReserved =
    is_access_rest_zero descriptor.version descriptor.bytes (access_place descriptor i) ≡ false
NamingBreaks descriptor i ReceiverTwice = (j : ℕ) × (j < i) × (endpoint_named descriptor j ≡ endpoint_named descriptor i)
NamingBreaks descriptor i flaw = ⊥

abbrev pub NamesBreak : Ffa → Versioned → ℕ → AccessFlaw → Type 0
NamesBreak V1_1 descriptor i flaw = ⊥
NamesBreak V1_2 descriptor i flaw = (i < receiver_count descriptor) × NamingBreaks descriptor i flaw

-- The bytes break this condition of a retrieve descriptor for this endpoint
abbrev pub RetrieveBreaks : Ffa → ℕ → Versioned → Flaw → Type 0
RetrieveBreaks ffa endpoint descriptor (Header flaw) = HeaderBreaks descriptor flaw
RetrieveBreaks ffa endpoint descriptor (Retrieve i flaw) = AskedBreaks ffa endpoint descriptor flaw
RetrieveBreaks ffa endpoint descriptor (Access i flaw) = NamesBreak ffa descriptor i flaw
RetrieveBreaks ffa endpoint descriptor flaw = ⊥

-- `Relinquish`
abbrev pub ReturnBreaks : List ℕ → RelinquishFlaw → Type 0
ReturnBreaks bytes RelinquishShort = length bytes < 18
ReturnBreaks bytes RelinquishFlags = 1 < u32_at bytes 8
ReturnBreaks bytes EndpointCount = u32_at bytes 12 ≢ 1

-- The bytes break this condition of a relinquish descriptor
abbrev pub RelinquishBreaks : List ℕ → Flaw → Type 0
RelinquishBreaks bytes (Relinquish flaw) = ReturnBreaks bytes flaw
RelinquishBreaks bytes flaw = ⊥
