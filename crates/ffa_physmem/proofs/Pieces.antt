-- SPDX-License-Identifier: MIT OR Apache-2.0
-- RAM in one piece, as a page of it is lent.
use Rattle.std.proofs.Common.{◌≡◌, ℕ, ◌+◌, ◌*◌, ◌%◌, ◌^◌, ◌≤◌, List, vec_len}
use Rattle.std.proofs.Math.Nat.{ℕ_set}
use Rattle.std.proofs.Math.Bridge.{le_prop}
use Rattle.std.specs.Vec.{with_item}
use Rattle.ffa_physmem.specs.declared.flat.FlatRam.{FlatRam}

-- with other bytes in one page it is the same RAM, whatever proves that this is RAM
pub with_page-there : {A : Type 0} (m : FlatRam A) (i : ℕ) (bytes : List ℕ) (aligned : m.base.0 % 4096 ≡ 0) (fits : m.base.0 + 4096 * vec_len m.pages ≤ 2 ^ 32) → record { base = m.base; pages = with_item m.pages i bytes; aligned = aligned; fits = fits } ≡ record m { pages = with_item m.pages i bytes }
with_page-there m i bytes aligned fits =
    λ j. record { base = m.base; pages = with_item m.pages i bytes; aligned = ℕ_set _ _ aligned m.aligned j; fits = le_prop fits m.fits j }
