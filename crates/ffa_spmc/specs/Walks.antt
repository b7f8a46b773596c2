-- SPDX-License-Identifier: MIT OR Apache-2.0
-- What the tables of an endpoint answer.
use Rattle.std.specs.Prelude.{ℕ}
use Rattle.ffa_model.specs.Agreement.{root}
use Rattle.ffa_model.specs.Identifiers.{place}
use Rattle.ffa_model.specs.Ram.{Ram}
use Rattle.ffa_model.specs.State.{State}
use Rattle.ffa_model.specs.Walk.{Answer, walk}

-- the walk of an address by an endpoint's table, over the bytes of RAM
abbrev pub walk_of : Ram → State → ℕ → ℕ → Answer
walk_of ram s e address = walk ram (root s (place e)) address
