-- SPDX-License-Identifier: MIT OR Apache-2.0
-- The bytes of a relinquish are read as it.
use Rattle.std.proofs.Common.{◌≡◌, ◌^◌, ◌<◌, ◌≤◌, Bool, true, false, cond, eqb, [], refl, sym, arith}
use mir.Val.{bool_byte}
use Rattle.byteorder.specs.Numbers.{little_number-reads_back}
use Rattle.ffa_model.specs.declared.descriptor.RelinquishDesc.{RelinquishDesc}
use Rattle.ffa_model.specs.DescriptorPlaces.{u16_at, u32_at, u64_at}
use Rattle.ffa_model.specs.RelinquishDescriptor.{Relinquish}
use Rattle.ffa_model.specs.ResponseBytes.{le}
use Rattle.play_trace.specs.Composed.{relinquish_bytes}

flag_few : (zero : Bool) → cond zero 1 0 ≤ 1
flag_few true = omega arith
flag_few false = omega arith

pub flag_told : (zero : Bool) → zero ≡ eqb (cond zero 1 0) 1
flag_told true = refl
flag_told false = refl

-- what a cast of a Bool gives
pub flag_cast : (zero : Bool) → bool_byte zero ≡ cond zero 1 0
flag_cast true = refl
flag_cast false = refl

pub relinquishes : (d : RelinquishDesc) → d.handle < 2 ^ 64 → d.endpoint.0 < 2 ^ 16 → Relinquish (relinquish_bytes d) d
unfolding le u16_at u32_at u64_at
relinquishes d handle endpoint =
    let few = flag_few d.zero in
    let flag : u32_at (relinquish_bytes d) 8 ≡ cond d.zero 1 0 = little_number-reads_back 4 (cond d.zero 1 0) (le 4 1) (omega arith) in
    record {
      whole = omega arith;
      flags = omega arith;
      one = refl;
      handle = sym (little_number-reads_back 8 d.handle [] handle);
      zero = rw flag (flag_told d.zero);
      endpoint = sym (little_number-reads_back 2 d.endpoint.0 [] endpoint);
    }
