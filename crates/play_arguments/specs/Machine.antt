-- SPDX-License-Identifier: MIT OR Apache-2.0
-- The endpoints of the machine of the demonstration.
use Rattle.std.specs.Prelude.{ℕ, Bool, true, false, List, [], ◌∷◌, replicate}
use Rattle.ffa_model.specs.declared.rights.Data.TheVariants.{Rw}
use Rattle.ffa_model.specs.declared.endpoint.Version.TheVariants.{V1_1}
use Rattle.ffa_model.specs.declared.endpoint.Region.{Region}
use Rattle.ffa_model.specs.declared.endpoint.Endpoint.{Endpoint}

-- sixteen pages of RAM that can be written
abbrev pub sixteen_writable : ℕ → Bool → Region
sixteen_writable base exec = record { base = base; pages = 16; rights = record { level = Rw; exec = exec } }

abbrev pub endpoint_with : List ℕ → ℕ → Region → Endpoint
endpoint_with uuid properties region =
    record { version = V1_1; uuid = uuid; properties = record { 0 = properties }; regions = record { items = region ∷ [] } }

-- the last fifteen bytes of the partitions' UUIDs
abbrev pub uuid_tail : List ℕ
uuid_tail = 17 ∷ 34 ∷ 51 ∷ 68 ∷ 85 ∷ 102 ∷ 119 ∷ 136 ∷ 153 ∷ 170 ∷ 187 ∷ 204 ∷ 221 ∷ 238 ∷ 255 ∷ []

-- the normal world and one partition
abbrev pub built_in_endpoints : List Endpoint
built_in_endpoints =
    endpoint_with (replicate 16 0) 6 (sixteen_writable 0x40010000 false)
    ∷ endpoint_with (0 ∷ uuid_tail) 15 (sixteen_writable 0x40020000 true)
    ∷ []
