-- SPDX-License-Identifier: MIT OR Apache-2.0
use Rattle.std.proofs.Common.{◌∙◌, ap, sym}
use Rattle.std.proofs.lemmas.Option.{none-some}
use Rattle.ffa_tlb.specs.Lookups.{lookup}
use Rattle.ffa_spmc.proofs.machine.Machine.first.Goals as goal

pub invariant_of-result : goal.invariant_of-result
invariant_of-result g c =
    (λ e p leaf there. absurd (none-some leaf (sym (ap (λ held. lookup held e p) c.clear.ensures) ∙ there)), c.first.ensures.rest)
