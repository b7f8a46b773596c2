-- SPDX-License-Identifier: MIT OR Apache-2.0
-- Where the field stands of which a condition speaks, its first byte and how many bytes it has, and what stands there.
use Rattle.std.specs.Prelude.{ℕ, ◌+◌, ◌*◌, ◌==◌, nat_le, List, length, Option, Some, None, if◌then◌else◌}
use Rattle.ffa_model.specs.declared.endpoint.Version.{Version}
use Rattle.ffa_model.specs.declared.endpoint.Version.TheVariants.{Compact, V1_1, V1_2}
use Rattle.ffa_model.specs.declared.flaw.FieldPlace.{FieldPlace}
use Rattle.ffa_model.specs.declared.flaw.Flaw.{Flaw}
use Rattle.ffa_model.specs.declared.flaw.Flaw.TheVariants.{Header, Send, Access, Composite, Range, Retrieve, Relinquish}
use Rattle.ffa_model.specs.declared.flaw.HeaderFlaw.{HeaderFlaw}
use Rattle.ffa_model.specs.declared.flaw.HeaderFlaw.TheVariants.{Short, AccessSize, ArrayUnaligned, ArrayInHeader, ArrayOutside, Reserved as HeaderReserved}
use Rattle.ffa_model.specs.declared.flaw.SendFlaw.{SendFlaw}
use Rattle.ffa_model.specs.declared.flaw.SendFlaw.TheVariants.{Attributes, Flags, Handle, NoReceiver, ManyReceivers}
use Rattle.ffa_model.specs.declared.flaw.AccessFlaw.{AccessFlaw}
use Rattle.ffa_model.specs.declared.flaw.AccessFlaw.TheVariants.{Permissions, Flags as AccessFlags, OtherComposite, Reserved as AccessReserved, ReceiverIsSender, ReceiverTwice}
use Rattle.ffa_model.specs.declared.flaw.CompositeFlaw.{CompositeFlaw}
use Rattle.ffa_model.specs.declared.flaw.CompositeFlaw.TheVariants.{Outside, Unaligned, InArray, NoRange, ManyRanges, Reserved as CompositeReserved, RangesOutside, Total}
use Rattle.ffa_model.specs.declared.flaw.RangeFlaw.{RangeFlaw}
use Rattle.ffa_model.specs.declared.flaw.RangeFlaw.TheVariants.{Empty, Unaligned as RangeUnaligned, TooHigh, Reserved as RangeReserved, Overlap}
use Rattle.ffa_model.specs.declared.flaw.RetrieveFlaw.{RetrieveFlaw}
use Rattle.ffa_model.specs.declared.flaw.RetrieveFlaw.TheVariants.{Attributes as AskedAttributes, Flags as AskedFlags, AccessCount, ReceiverIsAnother, DataPermission, InstructionPermission, PermissionsReserved, AccessFlags as AskedAccessFlags, CompositeTold, AccessReserved as AskedAccessReserved, NotZero}
use Rattle.ffa_model.specs.declared.flaw.RelinquishFlaw.{RelinquishFlaw}
use Rattle.ffa_model.specs.declared.flaw.RelinquishFlaw.TheVariants.{Short as RelinquishShort, Flags as RelinquishFlags, EndpointCount}
use Rattle.ffa_model.specs.DescriptorPlaces.{Versioned, byte, u16_at, u32_at, u64_at, header_size, accesses_size}

abbrev pub field : ℕ → ℕ → FieldPlace
field first size = record { first = first; size = size }

-- The places that the bytes tell, 0 where they end before: that of the array, and that of the composite. Where the bytes go on,
-- these are `array_place` and `composite_place`
abbrev pub told_place : List ℕ → ℕ → ℕ
told_place bytes at = if nat_le (at + 4) (length bytes) then u32_at bytes at else 0

abbrev pub told_array_in : Version → List ℕ → ℕ
told_array_in Compact bytes = 32
told_array_in version bytes = told_place bytes 32

abbrev pub told_array : Versioned → ℕ
told_array descriptor = told_array_in descriptor.version descriptor.bytes

abbrev pub told_composite : Versioned → ℕ
told_composite descriptor = told_place descriptor.bytes (told_array descriptor + 4)

-- how many access descriptors there are; except in the compact form, in the next bytes, where they begin; and in FF-A 1.2, in the
-- bytes before, which size each has
abbrev pub array_field : Version → FieldPlace
array_field Compact = field 28 4
array_field V1_1 = field 28 8
array_field V1_2 = field 24 12

-- a header that is short is a field of its own, of all its bytes
abbrev pub header_flaw_place : Version → HeaderFlaw → FieldPlace
header_flaw_place version Short = field 0 (header_size version)
header_flaw_place version AccessSize = field 24 4
header_flaw_place version ArrayUnaligned = field 32 4
header_flaw_place version ArrayInHeader = field 32 4
header_flaw_place version ArrayOutside = array_field version
header_flaw_place version HeaderReserved = field 36 12

abbrev pub send_flaw_place : SendFlaw → FieldPlace
send_flaw_place Attributes = field 2 2
send_flaw_place Flags = field 4 4
send_flaw_place Handle = field 8 8
send_flaw_place NoReceiver = field 28 4
send_flaw_place ManyReceivers = field 28 4

-- the end of the access descriptor at a place
abbrev pub access_rest_field : Version → ℕ → FieldPlace
access_rest_field V1_2 at = field (at + 8) 24
access_rest_field version at = field (at + 8) 8

-- by the access descriptor's place
abbrev pub access_flaw_place : Version → ℕ → AccessFlaw → FieldPlace
access_flaw_place version at Permissions = field (at + 2) 1
access_flaw_place version at AccessFlags = field (at + 3) 1
access_flaw_place version at OtherComposite = field (at + 4) 4
access_flaw_place version at AccessReserved = access_rest_field version at
access_flaw_place version at ReceiverIsSender = field at 2
access_flaw_place version at ReceiverTwice = field at 2

-- by the place of the array, whose first access descriptor tells that of the composite, and by the composite's
abbrev pub composite_flaw_place : ℕ → ℕ → CompositeFlaw → FieldPlace
composite_flaw_place array composite Outside = field (array + 4) 4
composite_flaw_place array composite Unaligned = field (array + 4) 4
composite_flaw_place array composite InArray = field (array + 4) 4
composite_flaw_place array composite NoRange = field (composite + 4) 4
composite_flaw_place array composite ManyRanges = field (composite + 4) 4
composite_flaw_place array composite CompositeReserved = field (composite + 8) 8
composite_flaw_place array composite RangesOutside = field (composite + 4) 4
composite_flaw_place array composite Total = field composite 4

-- by the range's place: an address of eight bytes, and a count of pages of four
abbrev pub range_flaw_place : ℕ → RangeFlaw → FieldPlace
range_flaw_place at Empty = field (at + 8) 4
range_flaw_place at RangeUnaligned = field at 8
range_flaw_place at TooHigh = field at 12
range_flaw_place at RangeReserved = field (at + 12) 4
range_flaw_place at Overlap = field at 12

-- by the place of the caller's access descriptor; a header that has to be 0 is a field of its own, of all its bytes
abbrev pub retrieve_flaw_place : Version → ℕ → RetrieveFlaw → FieldPlace
retrieve_flaw_place version own AskedAttributes = field 2 2
retrieve_flaw_place version own AskedFlags = field 4 4
retrieve_flaw_place version own AccessCount = field 28 4
retrieve_flaw_place version own ReceiverIsAnother = field own 2
retrieve_flaw_place version own DataPermission = field (own + 2) 1
retrieve_flaw_place version own InstructionPermission = field (own + 2) 1
retrieve_flaw_place version own PermissionsReserved = field (own + 2) 1
retrieve_flaw_place version own AskedAccessFlags = field (own + 3) 1
retrieve_flaw_place version own CompositeTold = field (own + 4) 4
retrieve_flaw_place version own AskedAccessReserved = access_rest_field version own
retrieve_flaw_place version own NotZero = field 0 (header_size version)

-- a relinquish that is short is a field of its own, of all its bytes
abbrev pub relinquish_flaw_place : RelinquishFlaw → FieldPlace
relinquish_flaw_place RelinquishShort = field 0 18
relinquish_flaw_place RelinquishFlags = field 8 4
relinquish_flaw_place EndpointCount = field 12 4

-- the place of the access descriptor with an index
abbrev pub told_access : Versioned → ℕ → ℕ
told_access descriptor i = told_array descriptor + accesses_size descriptor.version i

-- the field of which the broken condition speaks
abbrev pub flaw_place : Versioned → Flaw → FieldPlace
flaw_place descriptor (Header flaw) = header_flaw_place descriptor.version flaw
flaw_place descriptor (Send flaw) = send_flaw_place flaw
flaw_place descriptor (Access i flaw) = access_flaw_place descriptor.version (told_access descriptor i) flaw
flaw_place descriptor (Composite flaw) = composite_flaw_place (told_array descriptor) (told_composite descriptor) flaw
flaw_place descriptor (Range i flaw) = range_flaw_place (told_composite descriptor + 16 + 16 * i) flaw
flaw_place descriptor (Retrieve i flaw) = retrieve_flaw_place descriptor.version (told_access descriptor i) flaw
flaw_place descriptor (Relinquish flaw) = relinquish_flaw_place flaw

-- the number of 1, 2, 4 or 8 bytes at a place
abbrev pub number_of_size : List ℕ → ℕ → ℕ → Option ℕ
number_of_size bytes at size =
    if size == 1 then Some (byte bytes at)
    else if size == 2 then Some (u16_at bytes at)
    else if size == 4 then Some (u32_at bytes at)
    else if size == 8 then Some (u64_at bytes at)
    else None

-- what stands in a field, where it has so many bytes and all are there
abbrev pub field_value : List ℕ → FieldPlace → Option ℕ
field_value bytes place =
    if nat_le (place.first + place.size) (length bytes) then number_of_size bytes place.first place.size else None
