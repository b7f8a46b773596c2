-- SPDX-License-Identifier: MIT OR Apache-2.0
-- Identifiers of endpoints (DEN0077A, 6.1), and places in the manifest.
use Rattle.std.specs.Prelude.{ℕ, zero, suc, ◌+◌, ◌-◌}
use Rattle.ffa_model.specs.Numbers.{Identifier}

-- the manager's identifier
abbrev pub manager : Identifier
manager = 0x8000

-- The identifier of the endpoint at a place, and the place of an identifier. All up to 0x8000 have place 0: before it asks
-- for the place of a number a guard tests `is_known_among`.
abbrev pub identifier : ℕ → Identifier
identifier zero = 0
identifier (suc i) = 0x8001 + i

abbrev pub place : Identifier → ℕ
place e = e - 0x8000
