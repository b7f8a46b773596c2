-- SPDX-License-Identifier: MIT OR Apache-2.0
use Rattle.std.proofs.Common.{◌∙◌, ap, length, sym}
use Rattle.ffa_spmc.specs.Managed.{Managed}
use Rattle.ffa_spmc.proofs.manager.Manager.into_parts.Goals as goal

pub returns-clause-pages : goal.returns-clause-pages
returns-clause-pages g c =
    c.self.invariant.owners.size ∙ sym c.self.invariant.tables.size ∙ ap (λ (seen : Managed). length seen.ram.pages) c.self.view_is
