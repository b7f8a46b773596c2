-- SPDX-License-Identifier: MIT OR Apache-2.0
-- UUIDs as bytes.
use Rattle.std.specs.Prelude.{ℕ, ◌==◌, Bool, ◌&&◌, nat_lt, List, length}
use Rattle.std.specs.List.{list_all}

-- whether a list is one of 16 bytes
abbrev pub is_uuid : List ℕ → Bool
is_uuid uuid = length uuid == 16 && list_all (λ b. nat_lt b 256) uuid
