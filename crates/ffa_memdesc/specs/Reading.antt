-- SPDX-License-Identifier: MIT OR Apache-2.0
-- FOR PROOFS ALONE
-- What the parts of a reader answer.
use Rattle.std.specs.Prelude.{◌≡◌, ℕ, ◌+◌, ◌*◌, ◌%◌, ◌^◌, ◌<◌, ◌==◌, Bool, true, not, ◌&&◌, nat_le, if◌then◌else◌, List, [], ◌∷◌, length, take, slice_index_or, Option, Some, None, position, unwrap_or}
use Rattle.ffa_model.specs.declared.flaw.Flaw.{Flaw}
use Rattle.ffa_model.specs.declared.flaw.Flaw.TheVariants.{Access as FlawOfAccess, Composite as FlawOfComposite, Range as FlawOfRange}
use Rattle.ffa_model.specs.declared.flaw.AccessFlaw.TheVariants.{Permissions, Flags, OtherComposite, Reserved as AccessReserved, ReceiverIsSender, ReceiverTwice}
use Rattle.ffa_model.specs.declared.flaw.CompositeFlaw.TheVariants.{Outside, Unaligned, InArray, NoRange, ManyRanges, Reserved as CompositeReserved, RangesOutside}
use Rattle.ffa_model.specs.declared.flaw.RangeFlaw.TheVariants.{Empty, Unaligned as RangeUnaligned, TooHigh, Reserved as RangeReserved, Overlap}
use Rattle.ffa_model.specs.declared.limits.TheConstants.{MOST_RANGES}
use Rattle.ffa_model.specs.declared.manifest.Ffa.{Ffa}
use Rattle.ffa_model.specs.declared.manifest.Ffa.TheVariants.{V1_1, V1_2}
use Rattle.ffa_model.specs.declared.rights.Kind.{Kind}
use Rattle.ffa_model.specs.declared.transaction.Receiver.{Receiver}
use Rattle.ffa_model.specs.declared.transaction.Range.{Range}
use Rattle.std.specs.List.{list_all, list_any}
use Rattle.ffa_model.specs.Lists.{listed}
use Rattle.ffa_model.specs.DescriptorPlaces.{Versioned, sender_field, attributes_field, flags_field, handle_field, tag_field, receiver_count, array_place, endpoint_field, permissions_field, access_flags_field, composite_field, accesses_size, is_access_rest_zero, u32_at, u64_at}
use Rattle.ffa_model.specs.FirstFlaws.{first_broken, first_of}
use Rattle.ffa_model.specs.SendDescriptor.{is_grant, is_named, receiver_at, is_range, are_apart, range_at, range_end, holds_at_each}
use Rattle.ffa_memdesc.specs.declared.header.Header.{Header}
use Rattle.ffa_memdesc.specs.declared.access.Access.{Access}

abbrev pub header_in : Versioned → Header
header_in b =
    record {
      sender = record { 0 = sender_field b };
      attributes = attributes_field b;
      flags = flags_field b;
      handle = handle_field b;
      tag = tag_field b;
      count = receiver_count b;
      array = array_place b;
    }

abbrev pub access_in : Versioned → ℕ → Access
access_in b at =
    record {
      endpoint = record { 0 = endpoint_field b.bytes at };
      permissions = permissions_field b.bytes at;
      flags = access_flags_field b.bytes at;
      composite = composite_field b.bytes at;
      is_rest_zero = is_access_rest_zero b.version b.bytes at;
    }

-- What follows the header is read by its places: the array's and the composite's.

-- whether an access descriptor of a send by this sender stands at a place
abbrev pub is_access_from : Kind → ℕ → ℕ → Versioned → ℕ → Bool
is_access_from kind sender composite b at =
    is_grant kind (permissions_field b.bytes at)
    && (access_flags_field b.bytes at == 0)
    && (composite_field b.bytes at == composite)
    && is_access_rest_zero b.version b.bytes at
    && not (endpoint_field b.bytes at == sender)

-- the receiver at a place, where its access descriptor is one and no earlier one names it
unfoldable pub receiver_of : Kind → ℕ → ℕ → Versioned → ℕ → List Receiver → Option Receiver
receiver_of kind sender composite b at earlier =
    if is_access_from kind sender composite b at && not (is_named (endpoint_field b.bytes at) earlier)
    then Some (receiver_at b.bytes at) else None

-- receiver i of an array, and whether it is one beside the earlier ones
abbrev pub receiver_after : Versioned → ℕ → ℕ → Receiver
receiver_after b array i = receiver_at b.bytes (array + accesses_size b.version i)

abbrev pub is_receiver_after : Kind → ℕ → ℕ → Versioned → ℕ → ℕ → Bool
is_receiver_after kind sender composite b array i =
    is_access_from kind sender composite b (array + accesses_size b.version i)
    && not (is_named (endpoint_field b.bytes (array + accesses_size b.version i)) (listed i (receiver_after b array)))

unfoldable pub receivers_of : Kind → ℕ → ℕ → Versioned → ℕ → ℕ → Option (List Receiver)
receivers_of kind sender composite b array n =
    if holds_at_each (is_receiver_after kind sender composite b array) n
    then Some (listed n (receiver_after b array)) else None

-- the endpoint that access descriptor i of an array names, and the index of the first of so many that names one, or 0
abbrev pub named_after : Versioned → ℕ → ℕ → ℕ
named_after b array i = endpoint_field b.bytes (array + accesses_size b.version i)

abbrev pub index_after : ℕ → Versioned → ℕ → ℕ → ℕ
index_after endpoint b array count = unwrap_or (position (λ e. e == endpoint) (listed count (named_after b array))) 0

abbrev pub own_index_after : Ffa → ℕ → Versioned → ℕ → ℕ → ℕ
own_index_after V1_1 endpoint b array count = 0
own_index_after V1_2 endpoint b array count = index_after endpoint b array count

-- how many ranges a composite has that stands behind the array's end and inside the bytes
unfoldable pub range_count_of : List ℕ → ℕ → ℕ → Option ℕ
range_count_of b end composite =
    if (composite % 16 == 0)
    && nat_le end composite
    && nat_le 1 (u32_at b (composite + 4))
    && nat_le (u32_at b (composite + 4)) MOST_RANGES
    && (u64_at b (composite + 8) == 0)
    && nat_le (composite + 16 + 16 * u32_at b (composite + 4)) (length b)
    then Some (u32_at b (composite + 4)) else None

-- the range at a place, where it is one by itself
unfoldable pub range_of : List ℕ → ℕ → Option Range
range_of b at = if is_range b at then Some (range_at b at) else None

-- range i of a composite, and whether it is one beside the earlier ones
abbrev pub range_after : List ℕ → ℕ → ℕ → Range
range_after b composite i = range_at b (composite + 16 + 16 * i)

abbrev pub is_range_after : List ℕ → ℕ → ℕ → Bool
is_range_after b composite i =
    is_range b (composite + 16 + 16 * i)
    && list_all (are_apart (range_after b composite i)) (listed i (range_after b composite))

unfoldable pub ranges_of : List ℕ → ℕ → ℕ → Option (List Range)
ranges_of b composite n =
    if holds_at_each (is_range_after b composite) n then Some (listed n (range_after b composite)) else None

-- WHICH CONDITION IS BROKEN FIRST, by the same places

-- of the access descriptor at a place, which is number i
unfoldable pub access_flaw_at : Kind → ℕ → ℕ → Versioned → ℕ → List Receiver → ℕ → Option Flaw
access_flaw_at kind sender composite b at earlier i =
    first_broken ((is_grant kind (permissions_field b.bytes at), FlawOfAccess i Permissions)
    ∷ (access_flags_field b.bytes at == 0, FlawOfAccess i Flags)
    ∷ (composite_field b.bytes at == composite, FlawOfAccess i OtherComposite)
    ∷ (is_access_rest_zero b.version b.bytes at, FlawOfAccess i AccessReserved)
    ∷ (not (endpoint_field b.bytes at == sender), FlawOfAccess i ReceiverIsSender)
    ∷ (not (is_named (endpoint_field b.bytes at) earlier), FlawOfAccess i ReceiverTwice)
    ∷ [])

-- of access descriptor i of an array
abbrev pub access_flaw_after : Kind → ℕ → ℕ → Versioned → ℕ → ℕ → Option Flaw
access_flaw_after kind sender composite b array i =
    access_flaw_at kind sender composite b (array + accesses_size b.version i) (listed i (receiver_after b array)) i

-- of access descriptor i of a retrieve
unfoldable pub naming_flaw_at : Versioned → ℕ → ℕ → Option Flaw
naming_flaw_at b array i =
    first_broken ((nat_le (access_flags_field b.bytes (array + accesses_size b.version i)) 1, FlawOfAccess i Flags)
    ∷ (composite_field b.bytes (array + accesses_size b.version i) == 0, FlawOfAccess i OtherComposite)
    ∷ (is_access_rest_zero b.version b.bytes (array + accesses_size b.version i), FlawOfAccess i AccessReserved)
    ∷ (not (list_any (λ e. e == named_after b array i) (listed i (named_after b array))), FlawOfAccess i ReceiverTwice)
    ∷ [])

abbrev pub names_flaw_after : Ffa → Versioned → ℕ → ℕ → Option Flaw
names_flaw_after V1_1 b array count = None
names_flaw_after V1_2 b array count = first_of count (naming_flaw_at b array)

-- of a composite, without its ranges and the sum of these
unfoldable pub composite_flaw_at : List ℕ → ℕ → ℕ → Option Flaw
composite_flaw_at b end composite =
    first_broken ((nat_le (composite + 16 + 16 * 0) (length b), FlawOfComposite Outside)
    ∷ (composite % 16 == 0, FlawOfComposite Unaligned)
    ∷ (nat_le end composite, FlawOfComposite InArray)
    ∷ (nat_le 1 (u32_at b (composite + 4)), FlawOfComposite NoRange)
    ∷ (nat_le (u32_at b (composite + 4)) MOST_RANGES, FlawOfComposite ManyRanges)
    ∷ (u64_at b (composite + 8) == 0, FlawOfComposite CompositeReserved)
    ∷ (nat_le (composite + 16 + 16 * u32_at b (composite + 4)) (length b), FlawOfComposite RangesOutside)
    ∷ [])

-- of the range at a place, which is number i
unfoldable pub range_flaw_at : List ℕ → ℕ → List Range → ℕ → Option Flaw
range_flaw_at b at earlier i =
    first_broken ((nat_le 1 (range_at b at).pages, FlawOfRange i Empty)
    ∷ ((range_at b at).address % 4096 == 0, FlawOfRange i RangeUnaligned)
    ∷ (nat_le (range_end (range_at b at)) (2 ^ 48), FlawOfRange i TooHigh)
    ∷ (u32_at b (at + 12) == 0, FlawOfRange i RangeReserved)
    ∷ (list_all (are_apart (range_at b at)) earlier, FlawOfRange i Overlap)
    ∷ [])

-- of range i of a composite
abbrev pub range_flaw_after : List ℕ → ℕ → ℕ → Option Flaw
range_flaw_after b composite i = range_flaw_at b (composite + 16 + 16 * i) (listed i (range_after b composite)) i

-- of the range at a place by itself, which is number i
unfoldable pub own_flaw_at : List ℕ → ℕ → ℕ → Option Flaw
own_flaw_at b at i =
    first_broken ((nat_le 1 (range_at b at).pages, FlawOfRange i Empty)
    ∷ ((range_at b at).address % 4096 == 0, FlawOfRange i RangeUnaligned)
    ∷ (nat_le (range_end (range_at b at)) (2 ^ 48), FlawOfRange i TooHigh)
    ∷ (u32_at b (at + 12) == 0, FlawOfRange i RangeReserved)
    ∷ [])

-- of range i of a composite by itself
abbrev pub own_flaw_after : List ℕ → ℕ → ℕ → Option Flaw
own_flaw_after b composite i = own_flaw_at b (composite + 16 + 16 * i) i

-- no two of these ranges have a page in common
abbrev pub AreApart : List Range → Type 0
AreApart ranges = (i j : ℕ) (d : Range) → i < j → j < length ranges → are_apart (slice_index_or ranges j d) (slice_index_or ranges i d) ≡ true

-- whether the range at an index is apart from those before it
abbrev pub IsApartAt : List Range → ℕ → Bool → Type 0
IsApartAt ranges i apart = (d : Range) → list_all (are_apart (slice_index_or ranges i d)) (take i ranges) ≡ apart
