-- SPDX-License-Identifier: MIT OR Apache-2.0
-- Where the fields of memory transaction descriptors stand (DEN0077A, 5.11 and 16), and the codes in them.
use Rattle.byteorder.specs.Endian.{little_from}
use Rattle.std.specs.Prelude.{◌≡◌, ◌≤◌, ℕ, ◌+◌, ◌*◌, ◌%◌, ◌==◌, Bool, true, ◌&&◌, nat_le, List, length, slice_index, Option, Some, None, if◌then◌else◌}
use Rattle.ffa_model.specs.declared.endpoint.Version.{Version}
use Rattle.ffa_model.specs.declared.endpoint.Version.TheVariants.{Compact, V1_2}
use Rattle.ffa_model.specs.declared.rights.Data.{Data}
use Rattle.ffa_model.specs.declared.rights.Data.TheVariants.{Ro, Rw}
use Rattle.ffa_model.specs.declared.rights.Kind.{Kind}
use Rattle.ffa_model.specs.declared.rights.Kind.TheVariants.{Share, Lend, Donate}

-- numbers in bytes, by their place, the low byte first
abbrev pub byte : List ℕ → ℕ → ℕ
byte bytes at = slice_index bytes at

unfoldable pub u16_at : List ℕ → ℕ → ℕ
u16_at bytes at = little_from at 2 bytes

unfoldable pub u32_at : List ℕ → ℕ → ℕ
u32_at bytes at = little_from at 4 bytes

unfoldable pub u64_at : List ℕ → ℕ → ℕ
u64_at bytes at = little_from at 8 bytes

-- bytes, and the version of the endpoint that writes or reads them
pub record Versioned : Type 0 where
  pub version : Version
  pub bytes : List ℕ

abbrev pub in_version : Version → List ℕ → Versioned
in_version version bytes = record { version = version; bytes = bytes }

-- THE TRANSACTION HEADER: its length, its fields, and what makes bytes one. Only these and the header of a response
-- (`header_bytes` of ResponseBytes) know its form
abbrev pub header_size : Version → ℕ
header_size Compact = 32
header_size version = 48

abbrev pub sender_field : Versioned → ℕ
sender_field descriptor = u16_at descriptor.bytes 0

-- in the compact form one byte, and a reserved one behind it that is 0
abbrev pub attributes_field : Versioned → ℕ
attributes_field descriptor = u16_at descriptor.bytes 2

abbrev pub flags_field : Versioned → ℕ
flags_field descriptor = u32_at descriptor.bytes 4

abbrev pub handle_field : Versioned → ℕ
handle_field descriptor = u64_at descriptor.bytes 8

abbrev pub tag_field : Versioned → ℕ
tag_field descriptor = u64_at descriptor.bytes 16

-- the size of so many access descriptors
abbrev pub accesses_size : Version → ℕ → ℕ
accesses_size V1_2 count = 32 * count
accesses_size version count = 16 * count

-- what stands at 24: the size of an access descriptor, where the header tells it; else 0, which is reserved
abbrev pub told_access_size : Version → ℕ
told_access_size Compact = 0
told_access_size version = accesses_size version 1

abbrev pub receiver_count : Versioned → ℕ
receiver_count descriptor = u32_at descriptor.bytes 28

-- where the access descriptors begin
abbrev pub array_in : Version → List ℕ → ℕ
array_in Compact bytes = 32
array_in version bytes = u32_at bytes 32

abbrev pub array_place : Versioned → ℕ
array_place descriptor = array_in descriptor.version descriptor.bytes

-- the place of access descriptor i
abbrev pub access_place : Versioned → ℕ → ℕ
access_place descriptor i = array_place descriptor + accesses_size descriptor.version i

abbrev pub array_end : Versioned → ℕ
array_end descriptor = access_place descriptor (receiver_count descriptor)

-- the bytes behind the array's place, which are reserved
abbrev pub is_rest_zero : Version → List ℕ → Bool
is_rest_zero Compact bytes = true
is_rest_zero version bytes = (u32_at bytes 36 == 0) && (u64_at bytes 40 == 0)

-- access descriptors stand behind the header, and all lie inside the bytes
pub record IsHeader (descriptor : Versioned) : Type 0 where
  pub whole : header_size descriptor.version ≤ length descriptor.bytes
  pub told : u32_at descriptor.bytes 24 ≡ told_access_size descriptor.version
  pub aligned : array_place descriptor % 16 ≡ 0
  pub behind : header_size descriptor.version ≤ array_place descriptor
  pub inside : array_end descriptor ≤ length descriptor.bytes
  pub reserved : is_rest_zero descriptor.version descriptor.bytes ≡ true

abbrev pub is_header : Versioned → Bool
is_header descriptor =
    nat_le (header_size descriptor.version) (length descriptor.bytes)
    && (u32_at descriptor.bytes 24 == told_access_size descriptor.version)
    && (array_place descriptor % 16 == 0)
    && nat_le (header_size descriptor.version) (array_place descriptor)
    && nat_le (array_end descriptor) (length descriptor.bytes)
    && is_rest_zero descriptor.version descriptor.bytes

-- AN ACCESS DESCRIPTOR, by its place
abbrev pub endpoint_field : List ℕ → ℕ → ℕ
endpoint_field bytes at = u16_at bytes at

abbrev pub permissions_field : List ℕ → ℕ → ℕ
permissions_field bytes at = byte bytes (at + 2)

abbrev pub access_flags_field : List ℕ → ℕ → ℕ
access_flags_field bytes at = byte bytes (at + 3)

abbrev pub composite_field : List ℕ → ℕ → ℕ
composite_field bytes at = u32_at bytes (at + 4)

-- whether the bytes behind the composite's place are 0, which are reserved; in FF-A 1.2 the first 16 of them are the
-- implementation's
abbrev pub is_access_rest_zero : Version → List ℕ → ℕ → Bool
is_access_rest_zero V1_2 bytes at =
    (u64_at bytes (at + 8) == 0) && (u64_at bytes (at + 16) == 0) && (u64_at bytes (at + 24) == 0)
is_access_rest_zero version bytes at = u64_at bytes (at + 8) == 0

-- THE COMPOSITE: its place as the first access descriptor tells it, how many ranges it has, and the place of range i
abbrev pub composite_place : Versioned → ℕ
composite_place descriptor = composite_field descriptor.bytes (array_place descriptor)

abbrev pub total_field : Versioned → ℕ
total_field descriptor = u32_at descriptor.bytes (composite_place descriptor)

abbrev pub range_count : Versioned → ℕ
range_count descriptor = u32_at descriptor.bytes (composite_place descriptor + 4)

abbrev pub range_place : Versioned → ℕ → ℕ
range_place descriptor i = composite_place descriptor + 16 + 16 * i

-- CODES
-- data permission: 00 not specified, 01 read only, 10 read and write
abbrev pub data_code : Option Data → ℕ
data_code None = 0
data_code (Some Ro) = 1
data_code (Some Rw) = 2

abbrev pub data_of : ℕ → Option Data
data_of code = if code == 1 then Some Ro else if code == 2 then Some Rw else None

-- instruction permission: 00 not specified, 01 not executable, 10 executable
abbrev pub exec_code : Bool → ℕ
exec_code exec = if exec then 2 else 1

-- transaction type: 00 not specified, 01 share, 10 lend, 11 donate
abbrev pub kind_code : Option Kind → ℕ
kind_code None = 0
kind_code (Some Share) = 1
kind_code (Some Lend) = 2
kind_code (Some Donate) = 3

abbrev pub kind_of : ℕ → Option Kind
kind_of code =
    if code == 1 then Some Share else if code == 2 then Some Lend else if code == 3 then Some Donate else None

-- normal memory, write-back, inner shareable
abbrev pub normal_memory : ℕ
normal_memory = 0x2F
