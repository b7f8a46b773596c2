-- SPDX-License-Identifier: MIT OR Apache-2.0
use Rattle.std.proofs.Common.{◌≡◌, ap, subst}
use Rattle.std.specs.Prelude.{IfSome}
use Rattle.ffa_model.specs.State.{State}
use Rattle.ffa_playable.specs.declared.detail.Explanation.{Explanation}
use Rattle.ffa_playable.specs.Bench.{Bench}
use Rattle.ffa_playable.specs.Standing.{detail}
use Rattle.ffa_spmc.specs.Snapshot.{Snapshot}
use Rattle.ffa_reasons.proofs.several.ExplainedClusterPlayable.why.Goals as goal

pub returns-clause-detail : goal.returns-clause-detail
returns-clause-detail g c =
    let state = ap (λ (m : Snapshot). m.state) c.machine.ensures.machine in
    subst (λ (b : Bench). IfSome c.why_resuming.result (λ (its : Explanation). its.detail ≡ detail b.state c.args.op.now its.why)) c.self.view_is
    (subst (λ (s : State). IfSome c.why_resuming.result (λ (its : Explanation). its.detail ≡ detail s c.args.op.now its.why)) state c.why_resuming.ensures.detail)
