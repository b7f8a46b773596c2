-- SPDX-License-Identifier: MIT OR Apache-2.0
-- A header that was written, as it is read.
use Rattle.std.proofs.Common.{◌≡◌, ℕ, ◌%◌, ◌^◌, ◌<◌, ◌≤◌, true, List, [], ◌++◌, length, refl, ap, arith, length-append, ◌∙◌}
use Rattle.byteorder.specs.Numbers.{little_number-reads_back}
use Rattle.ffa_model.specs.declared.endpoint.Version.{Version}
use Rattle.ffa_model.specs.declared.endpoint.Version.TheVariants.{Compact, V1_1, V1_2}
use Rattle.ffa_model.specs.DescriptorPlaces.{Versioned, in_version, u16_at, u32_at, u64_at, header_size, accesses_size, told_access_size, sender_field, attributes_field, flags_field, handle_field, tag_field, receiver_count, array_place, is_rest_zero, IsHeader}
use Rattle.ffa_model.specs.ResponseBytes.{le}
use Rattle.play_trace.specs.declared.heading.Heading.{Heading}
use Rattle.play_trace.specs.Composed.{heading_bytes}
use Rattle.play_trace.proofs.Sizes.{header_aligned}

-- each number fits its field
pub record Fitting (h : Heading) : Type 0 where
  pub sender : h.sender.0 < 2 ^ 16
  pub attributes : h.attributes < 2 ^ 16
  pub flags : h.flags < 2 ^ 32
  pub handle : h.handle < 2 ^ 64
  pub tag : h.tag < 2 ^ 64
  pub count : h.count < 2 ^ 32

-- the header at the front says this
pub record Headed (b : Versioned) (h : Heading) : Type 0 where
  pub sender : sender_field b ≡ h.sender.0
  pub attributes : attributes_field b ≡ h.attributes
  pub flags : flags_field b ≡ h.flags
  pub handle : handle_field b ≡ h.handle
  pub tag : tag_field b ≡ h.tag
  pub told : u32_at b.bytes 24 ≡ told_access_size b.version
  pub count : receiver_count b ≡ h.count
  pub array : array_place b ≡ header_size b.version
  pub reserved : is_rest_zero b.version b.bytes ≡ true

pub length-heading : (version : Version) (h : Heading) → length (heading_bytes version h) ≡ header_size version
unfolding le
length-heading Compact h = refl
length-heading V1_1 h = refl
length-heading V1_2 h = refl

told_few : (version : Version) → told_access_size version < 2 ^ 32
told_few Compact = omega arith
told_few V1_1 = omega arith
told_few V1_2 = omega arith

-- what stands behind the first 32 bytes
module _ (h : Heading) (tail : List ℕ) where
  array_told : (version : Version) → array_place (in_version version (heading_bytes version h ++ tail)) ≡ header_size version
  unfolding le u32_at
  array_told Compact = refl
  array_told V1_1 = refl
  array_told V1_2 = refl

  rest_zero : (version : Version) → is_rest_zero version (heading_bytes version h ++ tail) ≡ true
  unfolding le u32_at u64_at
  rest_zero Compact = refl
  rest_zero V1_1 = refl
  rest_zero V1_2 = refl

pub headed : (version : Version) (h : Heading) (tail : List ℕ) → Fitting h → Headed (in_version version (heading_bytes version h ++ tail)) h
unfolding le u16_at u32_at u64_at
headed version h tail f =
    record {
      sender = little_number-reads_back 2 h.sender.0 [] f.sender;
      attributes = little_number-reads_back 2 h.attributes [] f.attributes;
      flags = little_number-reads_back 4 h.flags [] f.flags;
      handle = little_number-reads_back 8 h.handle [] f.handle;
      tag = little_number-reads_back 8 h.tag [] f.tag;
      told = little_number-reads_back 4 (told_access_size version) [] (told_few version);
      count = little_number-reads_back 4 h.count [] f.count;
      array = array_told h tail version;
      reserved = rest_zero h tail version;
    }

-- its access descriptors stand in the tail
pub is_header_of : (version : Version) (h : Heading) (tail : List ℕ) → Fitting h → accesses_size version h.count ≤ length tail → IsHeader (in_version version (heading_bytes version h ++ tail))
is_header_of version h tail fits room =
    let says = headed version h tail fits in
    let long = length-append (heading_bytes version h) tail in
    let front = length-heading version h in
    let array = says.array in
    let count = ap (accesses_size version) says.count in
    record {
      whole = omega arith;
      told = says.told;
      aligned = ap (λ (n : ℕ). n % 16) array ∙ header_aligned version;
      behind = omega arith;
      inside = omega arith;
      reserved = says.reserved;
    }
