-- SPDX-License-Identifier: MIT OR Apache-2.0
use Rattle.std.proofs.Common.{◌≤◌, length, subst, arith}
use Rattle.ffa_spmc.specs.Caching.{most_pages}
use Rattle.ffa_spmc.specs.Managed.{Managed}
use Rattle.ffa_spmc.proofs.manager.Manager.ram_base.Goals as goal

pub returns-clause-few : goal.returns-clause-few
returns-clause-few g c =
    subst (λ (seen : Managed). length seen.state.pages ≤ most_pages) c.self.view_is
    (let (n, whole, some, few, _) = c.self.invariant.sound.sized.blocks in omega (arith, whole, few))
