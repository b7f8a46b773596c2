-- SPDX-License-Identifier: MIT OR Apache-2.0
-- Which values a register or a field of a descriptor may have, where a check that fails wants others than it has (DEN0077A, 5.11
-- and 11 to 16). Each is a set of numbers.
use Rattle.std.specs.Prelude.{◌≡◌, ◌≤◌, ℕ, ◌+◌, ◌-◌, ◌*◌, ◌%◌, ◌==◌, ◌&&◌, is_none, nat_le, List, length, Option, Some, None, if◌then◌else◌}
use Rattle.std.specs.Option.{option_and_then, option_map}
use Rattle.ffa_model.specs.declared.call.Call.{Call}
use Rattle.ffa_model.specs.declared.call.Call.TheVariants as calls
use Rattle.ffa_model.specs.declared.call.Transfer.{Transfer}
use Rattle.ffa_model.specs.declared.flaw.FieldPlace.{FieldPlace}
use Rattle.ffa_model.specs.declared.flaw.Flaw.{Flaw}
use Rattle.ffa_model.specs.declared.flaw.Flaw.TheVariants.{Send, Access as AccessOf, Composite, Range as RangeOf, Retrieve, Relinquish}
use Rattle.ffa_model.specs.declared.flaw.SendFlaw.TheVariants.{Attributes, Flags, Handle as HandleGiven, NoReceiver, ManyReceivers}
use Rattle.ffa_model.specs.declared.flaw.AccessFlaw.TheVariants.{Permissions, Flags as AccessFlags, Reserved as AccessReserved}
use Rattle.ffa_model.specs.declared.flaw.CompositeFlaw.TheVariants.{Outside, Unaligned, InArray, NoRange, ManyRanges, Reserved as CompositeReserved}
use Rattle.ffa_model.specs.declared.flaw.RangeFlaw.TheVariants.{Reserved as RangeReserved}
use Rattle.ffa_model.specs.declared.flaw.RetrieveFlaw.TheVariants.{Attributes as AskedAttributes, AccessCount, AccessFlags as AskedAccessFlags, CompositeTold, AccessReserved as AskedAccessReserved}
use Rattle.ffa_model.specs.declared.flaw.RelinquishFlaw.TheVariants.{Flags as RelinquishFlags, EndpointCount}
use Rattle.ffa_model.specs.declared.limits.TheConstants.{MOST_BUFFER_PAGES, MOST_PROCESSORS, MOST_RANGES, MOST_RECEIVERS}
use Rattle.ffa_model.specs.declared.refusal.Refusal.{Refusal}
use Rattle.ffa_model.specs.declared.refusal.Refusal.TheVariants.{FlagsReserved, ContextUnknown, BufferPageCount, EndpointNotZero, EndpointNotNormalWorld, ContextCount, ClassesUnknown, Fragmented, BufferAddressGiven, BufferPagesGiven}
use Rattle.ffa_model.specs.declared.endpoint.Version.{Version}
use Rattle.ffa_model.specs.declared.manifest.Ffa.{Ffa}
use Rattle.ffa_model.specs.declared.manifest.Ffa.TheVariants.{V1_1, V1_2}
use Rattle.ffa_model.specs.declared.rights.Kind.{Kind}
use Rattle.ffa_model.specs.declared.rights.Kind.TheVariants.{Share, Lend, Donate}
use Rattle.ffa_model.specs.declared.why.About.{About}
use Rattle.ffa_model.specs.declared.why.About.TheVariants.{Register, Field}
use Rattle.ffa_model.specs.Numbers.{Identifier}
use Rattle.ffa_model.specs.Bits.{word_of_two}
use Rattle.ffa_model.specs.Calls.{first_refusal}
use Rattle.ffa_model.specs.DescriptorPlaces.{Versioned, accesses_size, normal_memory, receiver_count}
use Rattle.ffa_model.specs.MemorySend.{descriptor_in, transfer_guards}
use Rattle.ffa_model.specs.SendDescriptor.{attributes_of, most_flags, most_receivers}
use Rattle.ffa_model.specs.State.{State, Buffers}
use Rattle.ffa_mend.specs.declared.allowed.Allowed.{Allowed}

-- a number is one of them
pub record IsAmong (its : Allowed) (n : ℕ) : Type 0 where
  pub least : its.least ≤ n
  pub most : n ≤ its.most
  pub step : (n - its.least) % its.step ≡ 0

-- from one to another in equal steps; one alone; all from one to another; one of two
abbrev pub steps : ℕ → ℕ → ℕ → Allowed
steps least most step = record { least = least; most = most; step = step }

abbrev pub one : ℕ → Allowed
one n = steps n n 1

abbrev pub between : ℕ → ℕ → Allowed
between least most = steps least most 1

abbrev pub either : ℕ → ℕ → Allowed
either a b = steps a b (b - a)

-- REGISTERS

-- how many execution contexts an endpoint has: the normal world of FF-A 1.2 as many as there may be processors, and else one
abbrev pub contexts_of : Ffa → Identifier → ℕ
contexts_of V1_1 e = 1
contexts_of V1_2 e = if e == 0 then MOST_PROCESSORS else 1

abbrev pub allowed_flags : Call → Allowed
allowed_flags (calls.MemReclaim handle flags) = between 0 1
allowed_flags (calls.NotificationSet its) = either 0 2
allowed_flags call = one 0

-- the same endpoint, in each of its contexts
abbrev pub allowed_contexts : Ffa → Identifier → Allowed
allowed_contexts ffa e = steps e (word_of_two (contexts_of ffa e - 1) e) 0x10000

abbrev pub allowed_context : Ffa → Call → Option Allowed
allowed_context ffa (calls.Run target context) = Some (one (word_of_two target.0 0))
allowed_context ffa (calls.NotificationGet receiver context flags) = Some (allowed_contexts ffa receiver.0)
allowed_context ffa call = None

-- as many bytes as the descriptor has
abbrev pub allowed_fragment : Call → Option Allowed
allowed_fragment (calls.MemDonate transfer) = Some (one transfer.total)
allowed_fragment (calls.MemLend transfer) = Some (one transfer.total)
allowed_fragment (calls.MemShare transfer) = Some (one transfer.total)
allowed_fragment (calls.MemRetrieve transfer) = Some (one transfer.total)
allowed_fragment call = None

abbrev pub allowed_register : Ffa → Call → Refusal → Option Allowed
allowed_register ffa call FlagsReserved = Some (allowed_flags call)
allowed_register ffa call ContextUnknown = allowed_context ffa call
allowed_register ffa call Fragmented = allowed_fragment call
allowed_register ffa call BufferPageCount = Some (between 1 MOST_BUFFER_PAGES)
allowed_register ffa call EndpointNotZero = Some (one 0)
allowed_register ffa call EndpointNotNormalWorld = Some (one 0)
allowed_register ffa call ContextCount = Some (between 1 (contexts_of ffa 0))
allowed_register ffa call ClassesUnknown = Some (between 0 15)
allowed_register ffa call BufferAddressGiven = Some (one 0)
allowed_register ffa call BufferPagesGiven = Some (one 0)
allowed_register ffa call refusal = None

-- FIELDS of an offer to so many receivers, if its header tells how many, in so many bytes of a form, to a machine of this FF-A

abbrev pub allowed_permissions : Kind → Allowed
allowed_permissions Share = between 1 2
allowed_permissions Lend = between 1 2
allowed_permissions Donate = one 0

-- A composite may stand at a place behind access descriptors that end at a multiple of 16, and inside so many bytes with one range
pub record IsPlace (end length place : ℕ) : Type 0 where
  pub behind : end ≤ place
  pub aligned : place % 16 ≡ 0
  pub inside : place + 32 ≤ length

-- these places, if there is one
abbrev pub allowed_places : ℕ → ℕ → Option Allowed
allowed_places end length =
    if nat_le (end + 32) length then Some (steps end (length - 32 - (length - 32 - end) % 16) 16) else None

-- by the place of the first of so many access descriptors
abbrev pub allowed_behind : Version → ℕ → Option ℕ → ℕ → Option Allowed
allowed_behind version array receivers length =
    option_and_then (λ n. allowed_places (array + accesses_size version n) length) receivers

-- the memory attributes
abbrev pub allowed_attributes : Ffa → Kind → ℕ → Allowed
allowed_attributes V1_2 Lend receivers = either 0 normal_memory
allowed_attributes ffa kind receivers = one (attributes_of kind receivers)

-- the offset of the composite stands 4 bytes behind the first access descriptor's place
abbrev pub allowed_offer : Ffa → Version → Kind → Option ℕ → ℕ → FieldPlace → Flaw → Option Allowed
allowed_offer ffa version kind receivers length place (Send Attributes) = option_map (allowed_attributes ffa kind) receivers
allowed_offer ffa version kind receivers length place (Send Flags) = Some (between 0 (most_flags kind))
allowed_offer ffa version kind receivers length place (Send HandleGiven) = Some (one 0)
allowed_offer ffa version kind receivers length place (Send NoReceiver) = Some (between 1 (most_receivers kind))
allowed_offer ffa version kind receivers length place (Send ManyReceivers) = Some (between 1 (most_receivers kind))
allowed_offer ffa version kind receivers length place (AccessOf index Permissions) = Some (allowed_permissions kind)
allowed_offer ffa version kind receivers length place (AccessOf index AccessFlags) = Some (one 0)
allowed_offer ffa version kind receivers length place (AccessOf index AccessReserved) = Some (one 0)
allowed_offer ffa version kind receivers length place (Composite Outside) = allowed_behind version (place.first - 4) receivers length
allowed_offer ffa version kind receivers length place (Composite Unaligned) = allowed_behind version (place.first - 4) receivers length
allowed_offer ffa version kind receivers length place (Composite InArray) = allowed_behind version (place.first - 4) receivers length
allowed_offer ffa version kind receivers length place (Composite NoRange) = Some (between 1 MOST_RANGES)
allowed_offer ffa version kind receivers length place (Composite ManyRanges) = Some (between 1 MOST_RANGES)
allowed_offer ffa version kind receivers length place (Composite CompositeReserved) = Some (one 0)
allowed_offer ffa version kind receivers length place (RangeOf index RangeReserved) = Some (one 0)
allowed_offer ffa version kind receivers length place flaw = None

-- how many receivers the header of a descriptor tells that stands whole in TX of e
abbrev pub told_receivers : List (Option Buffers) → Identifier → Transfer → Versioned → Option ℕ
told_receivers buffers e transfer descriptor =
    if is_none (first_refusal (transfer_guards buffers e transfer))
    then if nat_le 32 (length descriptor.bytes) then Some (receiver_count descriptor) else None
    else None

-- how many endpoints a retrieve may name that names so many: in FF-A 1.2 several, unless bit 10 of its flags is set, which alone
-- refuses such a count
abbrev pub allowed_names : Ffa → ℕ → Allowed
allowed_names V1_1 count = one 1
allowed_names V1_2 count = if nat_le 1 count && nat_le count MOST_RECEIVERS then one 1 else between 1 MOST_RECEIVERS

-- of a retrieve and a relinquish, by the value that the field has
abbrev pub allowed_asked : Ffa → ℕ → Flaw → Option Allowed
allowed_asked ffa value (Retrieve i AskedAttributes) = Some (either 0 normal_memory)
allowed_asked ffa value (Retrieve i AccessCount) = Some (allowed_names ffa value)
allowed_asked ffa value (Retrieve i AskedAccessFlags) = Some (one 0)
allowed_asked ffa value (Retrieve i CompositeTold) = Some (one 0)
allowed_asked ffa value (Retrieve i AskedAccessReserved) = Some (one 0)
allowed_asked ffa value (Relinquish RelinquishFlags) = Some (between 0 1)
allowed_asked ffa value (Relinquish EndpointCount) = Some (one 1)
allowed_asked ffa value flaw = None

-- ON A STATE

abbrev pub receivers_told : State → Transfer → Option ℕ
receivers_told s transfer = told_receivers s.buffers s.runner transfer (descriptor_in s transfer.total)

abbrev pub receivers_of : State → Call → Option ℕ
receivers_of s (calls.MemDonate transfer) = receivers_told s transfer
receivers_of s (calls.MemLend transfer) = receivers_told s transfer
receivers_of s (calls.MemShare transfer) = receivers_told s transfer
receivers_of s call = None

-- of an offer to so many receivers, and of other calls
abbrev pub allowed_field : Ffa → Version → Option ℕ → Call → FieldPlace → ℕ → Flaw → Option Allowed
allowed_field ffa version receivers (calls.MemDonate transfer) place value flaw = allowed_offer ffa version Donate receivers transfer.total place flaw
allowed_field ffa version receivers (calls.MemLend transfer) place value flaw = allowed_offer ffa version Lend receivers transfer.total place flaw
allowed_field ffa version receivers (calls.MemShare transfer) place value flaw = allowed_offer ffa version Share receivers transfer.total place flaw
allowed_field ffa version receivers call place value flaw = allowed_asked ffa value flaw

-- a check of a call that fails, where it is about a register, or about a field whose value is told
abbrev pub allowed_check : Ffa → Version → Option ℕ → Call → Refusal → Option About → Option Allowed
allowed_check ffa version receivers call refusal (Some (Register number value)) = allowed_register ffa call refusal
allowed_check ffa version receivers call refusal (Some (Field flaw place (Some value))) = allowed_field ffa version receivers call place value flaw
allowed_check ffa version receivers call refusal about = None
