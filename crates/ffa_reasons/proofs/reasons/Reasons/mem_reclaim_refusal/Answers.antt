-- SPDX-License-Identifier: MIT OR Apache-2.0
use Rattle.std.proofs.Common.{◌∙◌}
use Rattle.ffa_model.specs.State.{State}
use Rattle.ffa_spmc.specs.Lent.{lent_parts}
use Rattle.ffa_model.specs.MemoryReturn.{memory_reclaim}
use Rattle.ffa_reasons.proofs.Checked.{seen-refusal, reclaim-checked}
use Rattle.ffa_memshare.proofs.Asks.{shared-placed}
use Rattle.ffa_spmc.proofs.Pools.{pool-shared}
use Rattle.ffa_reasons.proofs.reasons.Reasons.mem_reclaim_refusal.Goals as goal

pub returns : goal.returns
returns g c =
    let x = lent_parts g.M.PhysMem.ram c.self.inside.parts in
    let view = c.self.invariant.state ∙ c.self.view_is in
    seen-refusal x c.args.self.now view (λ (s : State). memory_reclaim s c.args.handle.0 c.args.flags) c.err.result
    (c.err.ensures.value ∙ c.check_reclaim-found.ensures.refusal ∙ reclaim-checked x c.self.invariant.managed c.runner-runner.result.0 c.runner-runner.ensures.runner c.args.handle.0 c.args.flags)

pub check_reclaim-found-requires : goal.check_reclaim-found-requires
check_reclaim-found-requires g c =
    let x = lent_parts g.M.PhysMem.ram c.self.inside.parts in
    shared-placed (pool-shared x c.self.invariant.managed)
