-- SPDX-License-Identifier: MIT OR Apache-2.0
use Rattle.std.proofs.Common.{ap, ◌∙◌}
use Rattle.ffa_mend.specs.Offered.{offered}
use Rattle.ffa_model.specs.State.{State}
use Rattle.ffa_playable.specs.Bench.{Bench}
use Rattle.ffa_spmc.specs.Snapshot.{Snapshot}
use Rattle.ffa_reasons.proofs.several.ExplainedClusterPlayable.offered.Goals as goal

pub returns : goal.returns
returns g c =
    let state = ap (λ (m : Snapshot). m.state) c.machine.ensures.machine ∙ ap (λ (b : Bench). b.state) c.self.view_is in
    c.offered.ensures ∙ ap (λ (s : State). offered s c.args.endpoint.0 c.args.page.0) state
