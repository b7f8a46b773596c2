-- SPDX-License-Identifier: MIT OR Apache-2.0
-- What ending a machine without a list leaves.
use Rattle.std.specs.Prelude.{ℕ, Option, None, Some, if◌then◌else◌}
use Rattle.ffa_c.specs.Boarded.{Boarded}

-- what C is told where it ends what it holds and has no list: RAM that was lent can't go back
abbrev pub ended_answer : Option Boarded → ℕ
ended_answer None = 19
ended_answer (Some b) = if b.is_lent then 22 else 0
