-- SPDX-License-Identifier: MIT OR Apache-2.0
use Rattle.std.proofs.Common.{None, arith}
use Rattle.std.proofs.lemmas.List.{ext_get_or}
use Rattle.ffa_memshare.proofs.copy.copy_slots.Goals as goal

pub returns : goal.returns
returns g c =
    let i = c.loop-slot.invariant in
    ext_get_or None _ _ i.size (λ k within. i.like k (omega (arith, i.size, within)))
