-- SPDX-License-Identifier: MIT OR Apache-2.0
-- How many bytes a response has.
use Rattle.std.proofs.Common.{◌≡◌, ◌∙◌, ℕ, suc, ◌+◌, ◌*◌, ◌++◌, List, [], ◌∷◌, length, refl, arith, length-append}
use Rattle.std.specs.List.{flat_map}
use Rattle.ffa_model.specs.declared.endpoint.Version.{Version}
use Rattle.ffa_model.specs.declared.endpoint.Version.TheVariants.{Compact, V1_1, V1_2}
use Rattle.ffa_model.specs.declared.transaction.Range.{Range}
use Rattle.ffa_model.specs.DescriptorPlaces.{header_size, accesses_size}
use Rattle.ffa_model.specs.ResponseBytes.{ResponseRecord, le, header_bytes, access_bytes, accesses_bytes, composite_bytes, range_bytes, response_bytes, response_size}

length-header : (version : Version) (r : ResponseRecord) → length (header_bytes version r) ≡ header_size version
unfolding le
length-header Compact r = refl
length-header V1_1 r = refl
length-header V1_2 r = refl

pub length-access : (version : Version) (count : ℕ) (access : ℕ × ℕ) → length (access_bytes version count access) ≡ accesses_size version 1
unfolding le
length-access Compact count access = refl
length-access V1_1 count access = refl
length-access V1_2 count access = refl

-- one access descriptor more
pub accesses_size-suc : (version : Version) (n : ℕ) → accesses_size version 1 + accesses_size version n ≡ accesses_size version (suc n)
accesses_size-suc Compact n = omega arith
accesses_size-suc V1_1 n = omega arith
accesses_size-suc V1_2 n = omega arith

accesses_size-zero : (version : Version) → 0 ≡ accesses_size version 0
accesses_size-zero Compact = refl
accesses_size-zero V1_1 = refl
accesses_size-zero V1_2 = refl

length-accesses : (version : Version) (count : ℕ) (accesses : List (ℕ × ℕ))
    → length (flat_map (access_bytes version count) accesses) ≡ accesses_size version (length accesses)
length-accesses version count [] = accesses_size-zero version
length-accesses version count (access ∷ accesses) =
    length-append (access_bytes version count access) (flat_map (access_bytes version count) accesses)
    ∙ omega (arith, length-access version count access, length-accesses version count accesses, accesses_size-suc version (length accesses))

pub length-composite : (ranges : List Range) → length (composite_bytes ranges) ≡ 16
unfolding le
length-composite ranges = refl

pub length-range : (range : Range) → length (range_bytes range) ≡ 16
unfolding le
length-range range = refl

length-ranges : (ranges : List Range) → length (flat_map range_bytes ranges) ≡ 16 * length ranges
length-ranges [] = refl
length-ranges (range ∷ ranges) =
    length-append (range_bytes range) (flat_map range_bytes ranges) ∙ omega (arith, length-range range, length-ranges ranges)

pub length-response_bytes : (version : Version) (r : ResponseRecord) → length (response_bytes version r) ≡ response_size version (length r.accesses) r.ranges
unfolding response_bytes
length-response_bytes version r =
    let a = length-append (header_bytes version r ++ accesses_bytes version r.accesses ++ composite_bytes r.ranges) (flat_map range_bytes r.ranges) in
    let b = length-append (header_bytes version r ++ accesses_bytes version r.accesses) (composite_bytes r.ranges) in
    let c = length-append (header_bytes version r) (accesses_bytes version r.accesses) in
    omega (arith, a, b, c, length-header version r, length-accesses version (length r.accesses) r.accesses, length-composite r.ranges, length-ranges r.ranges)
