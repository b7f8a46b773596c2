-- SPDX-License-Identifier: MIT OR Apache-2.0
use Rattle.std.proofs.Common.{◌≡◌, ◌∙◌, Bool, Some, ap, subst}
use Rattle.ffa_playable.specs.Bench.{Bench, after_op, effect_of}
use Rattle.ffa_spmc.specs.Clustered.{IsEffected}
use Rattle.ffa_reasons.proofs.Answered.{effect-shown, state-left}
use Rattle.ffa_reasons.proofs.several.ExplainedClusterPlayable.op.Goals as goal

pub returns-clause-effect : goal.returns-clause-effect
returns-clause-effect g c =
    let own = c.self.inside.cluster.machine in
    let new = c.op.new.self.machine in
    let done = subst (λ (shared : Bool). IsEffected shared own c.args.op.now c.op.new.effect new) g.met.M.Unshared.unshared c.op.ensures.done in
    effect-shown own new c.args.op.now c.op.new.effect done ∙ ap (λ (b : Bench). effect_of b c.args.op.now) c.self.view_is

pub returns-clause-bench : goal.returns-clause-bench
returns-clause-bench g c =
    let own = c.self.inside.cluster.machine in
    let its = c.self.inside in
    let new = c.op.new.self.machine in
    let done = subst (λ (shared : Bool). IsEffected shared own c.args.op.now c.op.new.effect new) g.met.M.Unshared.unshared c.op.ensures.done in
    let state = state-left own new c.args.op.now c.op.new.effect done in
    let processors = c.op.ensures.processors in
    let begun : Bench = record { state = own.state; several = Some (record { count = its.count; processors = its.cluster.processors }) } in
    let ended : Bench = record { state = new.state; several = Some (record { count = its.count; processors = c.op.new.self.processors }) } in
    let done : ended ≡ after_op begun c.args.op.now =
    λ i. record { state = state i; several = Some (record { count = its.count; processors = processors i }) } in
    done ∙ ap (λ (b : Bench). after_op b c.args.op.now) c.self.view_is
