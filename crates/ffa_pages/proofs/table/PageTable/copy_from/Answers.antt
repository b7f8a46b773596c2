-- SPDX-License-Identifier: MIT OR Apache-2.0
use Rattle.std.proofs.Common.{None, arith, ext_get_or}
use Rattle.ffa_pages.proofs.table.PageTable.copy_from.Goals as goal

pub returns : goal.returns
returns g c =
    let i = c.loop-page.invariant in
    ext_get_or None _ _ i.size (λ p within. i.like p (omega (arith, i.size, within)))
