-- SPDX-License-Identifier: MIT OR Apache-2.0
use Rattle.std.proofs.Common.{rules}
use Rattle.ffa_memshare.proofs.pool.Pool.is_held_at.Goals as goal

pub returns-in-Some-in_slot : goal.returns-in-Some-in_slot
returns-in-Some-in_slot g c = search rules
