-- SPDX-License-Identifier: MIT OR Apache-2.0
-- Relinquish descriptors: which bytes give memory back, and what they say.
use Rattle.std.specs.Prelude.{◌≡◌, ◌≤◌, ℕ, ◌==◌, ◌&&◌, nat_le, List, length, Option, Some, None, if◌then◌else◌}
use Rattle.ffa_model.specs.declared.descriptor.RelinquishDesc.{RelinquishDesc}
use Rattle.ffa_model.specs.DescriptorPlaces.{u16_at, u32_at, u64_at}

-- The bytes are a relinquish descriptor of one endpoint, and say this. All other bytes are
-- free. There may be more than 18, so that the whole page of TX may be handed over
pub record Relinquish (bytes : List ℕ) (relinquish : RelinquishDesc) : Type 0 where
  pub whole : 18 ≤ length bytes
  pub flags : u32_at bytes 8 ≤ 1
  pub one : u32_at bytes 12 ≡ 1
  pub handle : relinquish.handle ≡ u64_at bytes 0
  pub zero : relinquish.zero ≡ (u32_at bytes 8 == 1)
  pub endpoint : relinquish.endpoint.0 ≡ u16_at bytes 16

-- THE SAME, computed

abbrev pub relinquish_in : List ℕ → RelinquishDesc
relinquish_in bytes =
    record { handle = u64_at bytes 0; zero = u32_at bytes 8 == 1; endpoint = record { 0 = u16_at bytes 16 } }

-- what a relinquish descriptor says, if the bytes are one
unfoldable pub relinquish_of : List ℕ → Option RelinquishDesc
relinquish_of bytes =
    if nat_le 18 (length bytes) && nat_le (u32_at bytes 8) 1 && (u32_at bytes 12 == 1)
    then Some (relinquish_in bytes)
    else None
