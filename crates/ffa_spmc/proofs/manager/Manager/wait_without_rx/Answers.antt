-- SPDX-License-Identifier: MIT OR Apache-2.0
use Rattle.std.proofs.Common.{◌≡◌, ◌∙◌, sym, ap, subst, rules}
use Rattle.ffa_model.specs.declared.call.Call.TheVariants.{MsgWait}
use Rattle.ffa_model.specs.RunStates.{keeps_rx}
use Rattle.ffa_model.specs.State.{version_of}
use Rattle.ffa_spmc.specs.Managed.{Managed}
use Rattle.ffa_physmem.specs.Work.{AddsAtMost, no_work}
use Rattle.ffa_physmem.specs.Moments.{Past}
use Rattle.ffa_physmem.proofs.Work.{adds-none}
use Rattle.ffa_spmc.proofs.manager.Manager.wait_without_rx.Goals.{then-is_ok, else-is_ok}
use Rattle.ffa_spmc.proofs.Moments.{still-moments}
use Rattle.ffa_spmc.proofs.Fills.{known-buffered, runner-there}
use Rattle.ffa_spmc.proofs.Machines.{machine-called}
use Rattle.ffa_spmc.proofs.Schedules.{waited}
use Rattle.ffa_spmc.proofs.Inside.{parts_of}
use Rattle.ffa_spmc.proofs.manager.Manager.wait_without_rx.Goals as goal

pub empty-requires : goal.empty-requires
empty-requires g c =
    let x = parts_of g.M.PhysMem.ram c.self.inside in
    known-buffered x c.self.invariant c.runner-runner.result.0 (runner-there x c.self.invariant c.runner-runner.result.0 c.runner-runner.ensures.runner)

pub invariant_of-self : goal.invariant_of-self
invariant_of-self g c =
    let x = parts_of g.M.PhysMem.ram c.self.inside in
    machine-called x x.ram c.empty.new.self c.wait-result.new.self c.self.invariant c.self.invariant.tables (MsgWait c.args._flags)
    (waited x c.runner-runner.result.0 c.runner-runner.ensures.runner c.wait-result.result c.wait-result.new.self c.empty.new.self
    (sym c.is_ok.ensures.value ∙ c.if-is_ok.true) c.wait-result.ensures.refusal c.wait-result.ensures.changed c.empty.ensures c.args._flags
    (ap (λ (seen : Managed). keeps_rx (version_of seen.state seen.state.runner) c.args._flags) c.self.view_is ∙ c.requires))

pub returns : goal.returns
returns g c =
    let now = c.args.self.now in
    let kept : c.if-is_ok.self.ram ≡ now.ram = elim c.if-is_ok.branch [
      | then-is_ok w ↦ ap (λ (m : Managed). m.ram) w.self-is ∙ ap (λ (m : Managed). m.ram) c.self.view_is
      | else-is_ok w ↦ ap (λ (m : Managed). m.ram) w.self-is ∙ ap (λ (m : Managed). m.ram) c.self.view_is
    ] in
    let later : c.if-is_ok.self.past ≡ now.past = elim c.if-is_ok.branch [
      | then-is_ok w ↦ ap (λ (m : Managed). m.past) w.self-is ∙ ap (λ (m : Managed). m.past) c.self.view_is
      | else-is_ok w ↦ ap (λ (m : Managed). m.past) w.self-is ∙ ap (λ (m : Managed). m.past) c.self.view_is
    ] in
    record {
      served = search rules;
      refused = search rules;
      unowned = search rules;
      moments = still-moments now.state now.ram c.if-is_ok.self.ram now.past c.if-is_ok.self.past kept later;
      few = subst (λ (l : Past). AddsAtMost now.past l no_work) (sym later) (adds-none no_work);
    }
