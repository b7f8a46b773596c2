-- SPDX-License-Identifier: MIT OR Apache-2.0
-- Numbers by their bytes.
use Rattle.std.proofs.Common.{◌≡◌, ℕ, suc, ◌+◌, ◌*◌, List, arith}
use Rattle.ffa_model.specs.DescriptorPlaces.{byte, u16_at, u32_at, u64_at}

pub u16_bytes : (b : List ℕ) (at : ℕ) → u16_at b at ≡ byte b at + 256 * byte b (at + 1)
unfolding u16_at
u16_bytes b at =
    let one : at + 1 ≡ suc at = omega arith in
    rw one (omega arith)

pub u32_bytes : (b : List ℕ) (at : ℕ) → u32_at b at ≡ byte b at + 256 * (byte b (at + 1) + 256 * (byte b (at + 2) + 256 * byte b (at + 3)))
unfolding u32_at
u32_bytes b at =
    let one : at + 1 ≡ suc at = omega arith in
    let two : at + 2 ≡ suc (suc at) = omega arith in
    let three : at + 3 ≡ suc (suc (suc at)) = omega arith in
    rw (one, two, three) (omega arith)

pub u64_bytes : (b : List ℕ) (at : ℕ) → u64_at b at
    ≡ byte b at + 256 * (byte b (at + 1) + 256 * (byte b (at + 2) + 256 * (byte b (at + 3)
    + 256 * (byte b (at + 4) + 256 * (byte b (at + 5) + 256 * (byte b (at + 6) + 256 * byte b (at + 7)))))))
unfolding u64_at
u64_bytes b at =
    let one : at + 1 ≡ suc at = omega arith in
    let two : at + 2 ≡ suc (suc at) = omega arith in
    let three : at + 3 ≡ suc (suc (suc at)) = omega arith in
    let four : at + 4 ≡ suc (suc (suc (suc at))) = omega arith in
    let five : at + 5 ≡ suc (suc (suc (suc (suc at)))) = omega arith in
    let six : at + 6 ≡ suc (suc (suc (suc (suc (suc at))))) = omega arith in
    let seven : at + 7 ≡ suc (suc (suc (suc (suc (suc (suc at)))))) = omega arith in
    rw (one, two, three, four, five, six, seven) (omega arith)
