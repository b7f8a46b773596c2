-- SPDX-License-Identifier: MIT OR Apache-2.0
use Rattle.std.proofs.Common.{ℕ, ◌+◌, ◌*◌, ◌^◌, ◌≤◌, length, subst}
use Rattle.ffa_model.specs.Agreement.{Agrees}
use Rattle.ffa_model.specs.Ram.{Ram}
use Rattle.ffa_reasons.proofs.Audits.{certified-gives}
use Rattle.ffa_reasons.proofs.telling.audit.Goals as goal

pub returns-clause-access : goal.returns-clause-access
returns-clause-access g c =
    let lent = g.M.PhysMem.ram c.ram.result.now in
    let s = c.args.machine.now.state in
    let agree = subst (λ (r : Ram). Agrees r s) c.ram.ensures.ram c.ram.ensures.agrees in
    let ends = subst (λ (base : ℕ). base + 4096 * length lent.pages ≤ 2 ^ 32) c.base.ensures.value c.base.ensures.within in
    let within = subst (λ (r : Ram). r.base + 4096 * length r.pages ≤ 2 ^ 32) c.ram.ensures.ram ends in
    let same = certified-gives c.args.machine.now.ram s agree c.args.runs.now within in
    (λ yes. same.0 (c.audit.ensures.certified.0 yes), λ give. c.audit.ensures.certified.1 (same.1 give))
