-- SPDX-License-Identifier: MIT OR Apache-2.0
use Rattle.std.proofs.Common.{◌∙◌, List, true, false, refl, sym, ap, subst}
use Rattle.std.specs.Prelude.{Option}
use Rattle.ffa_model.specs.Buffers.{buffers_with_rx}
use Rattle.ffa_model.specs.Ram.{Ram}
use Rattle.ffa_model.specs.Setup.{told_info_size, uuid_bytes}
use Rattle.ffa_model.specs.State.{Buffers, version_of}
use Rattle.ffa_physmem.specs.Work.{AddsAtMost, loans_of}
use Rattle.ffa_physmem.proofs.Work.{adds-none}
use Rattle.ffa_spmc.specs.Meaning.{HasTables, IsManager, access_by_place, state_of}
use Rattle.ffa_spmc.proofs.Fills.{known-buffered, runner-there, rx-in-ram, tables-still}
use Rattle.ffa_spmc.proofs.Information.{info-reply, informed-own, machine-informed, state-informed}
use Rattle.ffa_spmc.specs.Managed.{Managed}
use Rattle.ffa_spmc.specs.Moments.{AreMoments}
use Rattle.ffa_spmc.specs.Unowned.{KeepsUnowned}
use Rattle.ffa_spmc.proofs.Moments.{no-moments, rx-moments}
use Rattle.ffa_spmc.proofs.Unowned.{unowned-filled}
use Rattle.ffa_spmc.proofs.Inside.{parts_of}
use Rattle.ffa_spmc.proofs.manager.Manager.inform.Goals as goal

pub returns-then-is_count_alone-clause-reply : goal.returns-then-is_count_alone-clause-reply
returns-then-is_count_alone-clause-reply g c =
    let x = parts_of g.M.PhysMem.ram c.self.inside in
    info-reply x c.args.self.now c.self.view_is x.kept.chain.runner refl
    c.count-count.result (uuid_bytes c.args.uuid) c.args.flags true (told_info_size (version_of c.args.self.now.state c.args.self.now.state.runner)) c.count-count.ensures (sym c.is_count_alone.ensures ∙ c.if-is_count_alone.true) refl

pub returns-clause-reply : goal.returns-clause-reply
returns-clause-reply g c =
    let x = parts_of g.M.PhysMem.ram c.self.inside in
    info-reply x c.args.self.now c.self.view_is c.runner-runner.result.0 c.runner-runner.ensures.runner
    c.count-count.result (uuid_bytes c.args.uuid) c.args.flags false c.told_info_size.result c.count-count.ensures (sym c.is_count_alone.ensures ∙ c.if-is_count_alone.false) (c.told_info_size.ensures ∙ ap told_info_size c.version-version.ensures)

pub fill-requires-clause-rx : goal.fill-requires-clause-rx
fill-requires-clause-rx g c =
    let x = parts_of g.M.PhysMem.ram c.self.inside in
    let (buffers, are) = informed-own x c.args.self.now c.self.view_is c.runner-runner.result.0 c.runner-runner.ensures.runner
    (uuid_bytes c.args.uuid) c.args.flags c.requires (sym c.is_count_alone.ensures ∙ c.if-is_count_alone.false)
    in
    rx-in-ram x c.self.invariant c.runner-runner.result.0 (runner-there x c.self.invariant c.runner-runner.result.0 c.runner-runner.ensures.runner) buffers are

pub fill-requires-clause-known : goal.fill-requires-clause-known
fill-requires-clause-known g c =
    let x = parts_of g.M.PhysMem.ram c.self.inside in
    known-buffered x c.self.invariant c.runner-runner.result.0 (runner-there x c.self.invariant c.runner-runner.result.0 c.runner-runner.ensures.runner)

pub invariant_of-self : goal.invariant_of-self
invariant_of-self g c =
    let x = parts_of g.M.PhysMem.ram c.self.inside in
    (subst (λ (list : List (Option Buffers)). IsManager (record x { ram = g.M.PhysMem.ram c.fill.new.ram; kept = record x.kept { buffers = list } })) (sym c.fill.ensures.full)
    (subst (λ (ram : Ram). IsManager (record x { ram = ram; kept = record x.kept { buffers = buffers_with_rx x.kept.buffers c.runner-runner.result.0 true } })) (sym c.fill.ensures.ram)
    (machine-informed x c.args.self.now c.self.view_is c.runner-runner.result.0 c.runner-runner.ensures.runner c.self.invariant
    c.args.uuid c.args.flags c.as_slice.result.now c.version-version.result c.version-version.ensures (c.as_slice.ensures.value ∙ c.info_bytes-bytes.ensures) (sym c.is_count_alone.ensures ∙ c.if-is_count_alone.false) c.requires)))

pub returns-clause-state : goal.returns-clause-state
returns-clause-state g c =
    let x = parts_of g.M.PhysMem.ram c.self.inside in
    (ap (λ (list : List (Option Buffers)). state_of (record x { ram = g.M.PhysMem.ram c.fill.new.ram; kept = record x.kept { buffers = list } })) c.fill.ensures.full
    ∙ ap (λ (ram : Ram). state_of (record x { ram = ram; kept = record x.kept { buffers = buffers_with_rx x.kept.buffers c.runner-runner.result.0 true } })) c.fill.ensures.ram
    ∙ state-informed x c.args.self.now c.self.view_is c.runner-runner.result.0 c.runner-runner.ensures.runner c.self.invariant
    c.args.uuid c.args.flags c.as_slice.result.now c.version-version.result c.version-version.ensures (c.as_slice.ensures.value ∙ c.info_bytes-bytes.ensures) (sym c.is_count_alone.ensures ∙ c.if-is_count_alone.false))

pub returns-clause-unowned : goal.returns-clause-unowned
returns-clause-unowned g c =
    let x = parts_of g.M.PhysMem.ram c.self.inside in
    subst (λ (seen : Managed). KeepsUnowned seen.state seen.ram (g.M.PhysMem.ram c.fill.new.ram)) c.self.view_is
    (subst (KeepsUnowned (state_of x) x.ram) (sym c.fill.ensures.ram)
    (unowned-filled x c.self.invariant c.runner-runner.result.0 (runner-there x c.self.invariant c.runner-runner.result.0 c.runner-runner.ensures.runner) x.ram c.as_slice.result.now))

pub returns-clause-moments : goal.returns-clause-moments
returns-clause-moments g c =
    let x = parts_of g.M.PhysMem.ram c.self.inside in
    let later = g.M.PhysMem.past c.fill.new.ram in
    subst (λ (seen : Managed). AreMoments seen.state seen.ram (g.M.PhysMem.ram c.fill.new.ram) seen.past later) c.self.view_is
    (rx-moments x c.self.invariant c.runner-runner.result.0 (runner-there x c.self.invariant c.runner-runner.result.0 c.runner-runner.ensures.runner) (g.M.PhysMem.ram c.fill.new.ram)
    (subst (λ (ram : Ram). HasTables ram x.manifest (access_by_place (state_of x))) (sym c.fill.ensures.ram)
    (tables-still x c.self.invariant c.runner-runner.result.0 (runner-there x c.self.invariant c.runner-runner.result.0 c.runner-runner.ensures.runner) c.as_slice.result.now))
    _ later (g.met.M.PhysMem.in_turn c.fill.new.ram) c.fill.ensures.steps)

pub returns-then-is_count_alone-clause-moments : goal.returns-then-is_count_alone-clause-moments
returns-then-is_count_alone-clause-moments g c = no-moments c.args.self.now.state c.args.self.now.ram c.args.self.now.past

pub returns-clause-few : goal.returns-clause-few
returns-clause-few g c = subst (λ (seen : Managed). AddsAtMost seen.past (g.M.PhysMem.past c.fill.new.ram) (loans_of 1)) c.self.view_is c.fill.ensures.few

pub returns-then-is_count_alone-clause-few : goal.returns-then-is_count_alone-clause-few
returns-then-is_count_alone-clause-few g c = adds-none (loans_of 1)
