-- SPDX-License-Identifier: MIT OR Apache-2.0
use Rattle.std.proofs.Common.{◌∙◌, Some, ap, sym}
use Rattle.ffa_model.specs.declared.refusal.Refusal.{Refusal}
use Rattle.ffa_model.specs.Setup.{uuid_bytes}
use Rattle.ffa_spmc.proofs.Information.{info-unknown, info-count, info-unmapped, info-full, info-ready}
use Rattle.ffa_spmc.proofs.Inside.{parts_of}
use Rattle.ffa_spmc.proofs.manager.Manager.check_info.Goals as goal

pub returns-then-not-is_recognized : goal.returns-then-not-is_recognized
returns-then-not-is_recognized g c =
    let x = parts_of g.M.PhysMem.ram c.self.inside in
    info-unknown x c.args.self.now c.self.view_is c.runner-runner.result.0 c.runner-runner.ensures.runner
    (uuid_bytes c.args.uuid) c.args.flags (sym c.is_recognized.ensures ∙ c.if-not-is_recognized.true)

pub returns-then-is_count_alone : goal.returns-then-is_count_alone
returns-then-is_count_alone g c =
    let x = parts_of g.M.PhysMem.ram c.self.inside in
    info-count x c.args.self.now c.self.view_is c.runner-runner.result.0 c.runner-runner.ensures.runner
    (uuid_bytes c.args.uuid) c.args.flags (sym c.is_recognized.ensures ∙ c.if-not-is_recognized.false)
    (sym c.is_count_alone.ensures ∙ c.if-is_count_alone.true)

pub returns-then-not-has : goal.returns-then-not-has
returns-then-not-has g c =
    let x = parts_of g.M.PhysMem.ram c.self.inside in
    ap (λ (refusal : Refusal). Some refusal) c.missing_buffers.ensures
    ∙ info-unmapped x c.args.self.now c.self.view_is c.runner-runner.result.0 c.runner-runner.ensures.runner
    (uuid_bytes c.args.uuid) c.args.flags (sym c.is_recognized.ensures ∙ c.if-not-is_recognized.false)
    (sym c.is_count_alone.ensures ∙ c.if-is_count_alone.false) (sym c.has.ensures ∙ c.if-not-has.true)

pub returns-then-is_full : goal.returns-then-is_full
returns-then-is_full g c =
    let x = parts_of g.M.PhysMem.ram c.self.inside in
    info-full x c.args.self.now c.self.view_is c.runner-runner.result.0 c.runner-runner.ensures.runner
    (uuid_bytes c.args.uuid) c.args.flags (sym c.is_recognized.ensures ∙ c.if-not-is_recognized.false)
    (sym c.is_count_alone.ensures ∙ c.if-is_count_alone.false) (sym c.has.ensures ∙ c.if-not-has.false)
    (sym c.is_full.ensures ∙ c.if-is_full.true)

pub returns : goal.returns
returns g c =
    let x = parts_of g.M.PhysMem.ram c.self.inside in
    info-ready x c.args.self.now c.self.view_is c.runner-runner.result.0 c.runner-runner.ensures.runner
    (uuid_bytes c.args.uuid) c.args.flags (sym c.is_recognized.ensures ∙ c.if-not-is_recognized.false)
    (sym c.is_count_alone.ensures ∙ c.if-is_count_alone.false) (sym c.has.ensures ∙ c.if-not-has.false)
    (sym c.is_full.ensures ∙ c.if-is_full.false)
