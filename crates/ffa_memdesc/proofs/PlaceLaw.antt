-- SPDX-License-Identifier: MIT OR Apache-2.0
-- The places that bytes tell are those of the definitions, where the bytes go on so far.
use Rattle.std.proofs.Common.{◌≡◌, ℕ, ◌+◌, ◌≤◌, cond, List, length, ap, ◌∙◌, arith, le-leb, refl}
use Rattle.ffa_model.specs.declared.endpoint.Version.{Version}
use Rattle.ffa_model.specs.declared.endpoint.Version.TheVariants.{Compact, V1_1, V1_2}
use Rattle.ffa_model.specs.DescriptorPlaces.{Versioned, IsHeader, u32_at, header_size, array_in, array_place, composite_place}
use Rattle.ffa_model.specs.FlawPlaces.{told_place, told_array_in, told_array, told_composite}

told_inside : (bytes : List ℕ) (at : ℕ) → at + 4 ≤ length bytes → told_place bytes at ≡ u32_at bytes at
told_inside bytes at inside = ap (λ t. cond t (u32_at bytes at) 0) (le-leb (at + 4) (length bytes) inside)

array_told : (version : Version) (bytes : List ℕ) → header_size version ≤ length bytes → told_array_in version bytes ≡ array_in version bytes
array_told Compact bytes whole = refl
array_told V1_1 bytes whole = told_inside bytes 32 (omega arith)
array_told V1_2 bytes whole = told_inside bytes 32 (omega arith)

pub told_array_is : (b : Versioned) → IsHeader b → told_array b ≡ array_place b
told_array_is b h = array_told b.version b.bytes h.whole

pub told_composite_is : (b : Versioned) → IsHeader b → array_place b + 8 ≤ length b.bytes → told_composite b ≡ composite_place b
told_composite_is b h inside =
    ap (λ (at : ℕ). told_place b.bytes (at + 4)) (told_array_is b h) ∙ told_inside b.bytes (array_place b + 4) (omega arith)
