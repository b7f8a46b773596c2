-- SPDX-License-Identifier: MIT OR Apache-2.0
use Rattle.std.proofs.Common.{◌∙◌}
use Rattle.ffa_mend.specs.Mend.{mend_work}
use Rattle.ffa_model.specs.RunStates.{schedule_of, work_in}
use Rattle.ffa_model.specs.State.{State}
use Rattle.ffa_spmc.specs.Lent.{lent_parts}
use Rattle.ffa_reasons.proofs.Told.{seen-in}
use Rattle.ffa_reasons.proofs.reasons.Reasons.mend_work.Goals as goal

pub returns : goal.returns
returns g c =
    let x = lent_parts g.M.PhysMem.ram c.self.inside.parts in
    let view = c.self.invariant.state ∙ c.self.view_is in
    seen-in x c.args.self.now view (λ (s : State). mend_work s.runner (work_in (schedule_of s) s.runner)) c.mend_work.result
    c.mend_work.ensures
