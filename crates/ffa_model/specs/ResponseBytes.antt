-- SPDX-License-Identifier: MIT OR Apache-2.0
-- The bytes of the answer to a retrieve: a transaction descriptor in its reader's version.
use Rattle.std.specs.Prelude.{ℕ, ◌+◌, ◌*◌, Bool, if◌then◌else◌, List, [], ◌∷◌, ◌++◌, length, Some}
use Rattle.std.specs.List.{flat_map}
use Rattle.byteorder.specs.Endian.{little_bytes}
use Rattle.ffa_model.specs.declared.endpoint.Version.{Version}
use Rattle.ffa_model.specs.declared.endpoint.Version.TheVariants.{Compact, V1_2}
use Rattle.ffa_model.specs.declared.rights.Kind.{Kind}
use Rattle.ffa_model.specs.declared.rights.Rights.{Rights}
use Rattle.ffa_model.specs.declared.transaction.Range.{Range}
use Rattle.ffa_model.specs.declared.descriptor.Response.{Response}
use Rattle.ffa_model.specs.Numbers.{Identifier}
use Rattle.ffa_model.specs.DescriptorPlaces.{header_size, accesses_size, told_access_size, data_code, exec_code, kind_code, normal_memory}
use Rattle.ffa_model.specs.SendDescriptor.{page_total}

-- what a response tells: of each endpoint that it names the permissions too
pub record ResponseRecord : Type 0 where
  pub sender : Identifier
  pub kind : Kind
  pub zero : Bool
  pub normal : Bool
  pub handle : ℕ
  pub tag : ℕ
  pub accesses : List (ℕ × ℕ)
  pub ranges : List Range

-- the right now held: data in bits 1:0, instructions in bits 3:2
abbrev pub permissions_of : Rights → ℕ
permissions_of right = data_code (Some right.level) + 4 * exec_code right.exec

abbrev pub response_record : Response → ResponseRecord
response_record response =
    record {
      sender = response.sender.0;
      kind = response.kind;
      zero = response.zero;
      normal = response.normal;
      handle = response.handle;
      tag = response.tag;
      accesses = (response.endpoint.0, permissions_of response.rights) ∷ [];
      ranges = response.ranges.items;
    }

-- n bytes of a number, the low byte first
unfoldable pub le : ℕ → ℕ → List ℕ
le n x = little_bytes n x

-- the kind in bits 4:3, and in bit 0 whether the pages were zeroed
abbrev pub flags_of : Kind → Bool → ℕ
flags_of kind zero = 8 * kind_code (Some kind) + (if zero then 1 else 0)

-- normal memory; bit 6 says that it is non-secure, and is reserved in the compact form
abbrev pub attributes_told : Version → Bool → ℕ
attributes_told Compact normal = normal_memory
attributes_told version normal = normal_memory + (if normal then 64 else 0)

-- the array's place, and zeros, where the header tells it
abbrev pub rest_bytes : Version → List ℕ
rest_bytes Compact = []
rest_bytes version = le 4 48 ++ le 4 0 ++ le 8 0

-- the header. Its fields are those of DescriptorPlaces
abbrev pub header_bytes : Version → ResponseRecord → List ℕ
header_bytes version response =
    le 2 response.sender
    ++ le 2 (attributes_told version response.normal)
    ++ le 4 (flags_of response.kind response.zero)
    ++ le 8 response.handle
    ++ le 8 response.tag
    ++ le 4 (told_access_size version)
    ++ le 4 (length response.accesses)
    ++ rest_bytes version

-- the end of the access descriptor
abbrev pub access_rest_bytes : Version → List ℕ
access_rest_bytes V1_2 = le 8 0 ++ le 8 0 ++ le 8 0
access_rest_bytes version = le 8 0

-- one of so many access descriptors, with the composite right behind them
abbrev pub access_bytes : Version → ℕ → ℕ × ℕ → List ℕ
access_bytes version count access =
    le 2 access.0 ++ access.1 ∷ 0 ∷ [] ++ le 4 (header_size version + accesses_size version count) ++ access_rest_bytes version

abbrev pub accesses_bytes : Version → List (ℕ × ℕ) → List ℕ
accesses_bytes version accesses = flat_map (access_bytes version (length accesses)) accesses

abbrev pub composite_bytes : List Range → List ℕ
composite_bytes ranges = le 4 (page_total ranges) ++ le 4 (length ranges) ++ le 8 0

abbrev pub range_bytes : Range → List ℕ
range_bytes range = le 8 range.address ++ le 4 range.pages ++ le 4 0

unfoldable pub response_bytes : Version → ResponseRecord → List ℕ
response_bytes version r =
    header_bytes version r ++ accesses_bytes version r.accesses ++ composite_bytes r.ranges ++ flat_map range_bytes r.ranges

-- how many they are, with so many access descriptors
abbrev pub response_size : Version → ℕ → List Range → ℕ
response_size version count ranges = header_size version + accesses_size version count + 16 + 16 * length ranges
