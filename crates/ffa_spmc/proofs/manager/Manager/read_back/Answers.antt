-- SPDX-License-Identifier: MIT OR Apache-2.0
use Rattle.std.proofs.Common.{◌≡◌, ◌∙◌, refl, ap, sym}
use Rattle.ffa_model.specs.declared.call.Reply.TheVariants.{Retrieved}
use Rattle.ffa_model.specs.Calls.{replied}
use Rattle.ffa_model.specs.HypervisorRetrieve.{asks_back, hypervisor_retrieve}
use Rattle.ffa_model.specs.State.{State}
use Rattle.ffa_spmc.specs.Managed.{Managed}
use Rattle.ffa_physmem.specs.Work.{loans_of}
use Rattle.ffa_spmc.specs.Meaning.{Parts, state_of}
use Rattle.ffa_spmc.specs.Replies.{reply_of}
use Rattle.ffa_spmc.proofs.Fills.{caller-is, runner-there}
use Rattle.ffa_spmc.proofs.Inside.{parts_of}
use Rattle.ffa_spmc.proofs.Moments.{rx-moments}
use Rattle.ffa_spmc.proofs.Pools.{pool-shared}
use Rattle.ffa_spmc.proofs.ReadBacks.{asked-is, back-machine, back-served, back-tables, back-unowned, call_of, unchanged}
use Rattle.ffa_spmc.proofs.Replied.{refused-told, replied-with}
use Rattle.ffa_spmc.proofs.manager.Manager.read_back.Goals.{in-Ok, in-Err}
use Rattle.ffa_spmc.proofs.manager.Manager.read_back.Goals as goal

pub read_back-told-requires-clause-shared : goal.read_back-told-requires-clause-shared
read_back-told-requires-clause-shared g c =
    let x = parts_of g.M.PhysMem.ram c.self.inside in
    pool-shared x c.self.invariant

pub read_back-told-requires-clause-caller : goal.read_back-told-requires-clause-caller
read_back-told-requires-clause-caller g c =
    let x = parts_of g.M.PhysMem.ram c.self.inside in
    caller-is x c.self.invariant c.runner-runner.result.0 c.runner-runner.ensures.runner

pub read_back-told-requires-clause-asked : goal.read_back-told-requires-clause-asked
read_back-told-requires-clause-asked g c =
    let x = parts_of g.M.PhysMem.ram c.self.inside in
    asked-is x c.self.invariant c.runner-runner.result c.runner-runner.ensures.runner c.descriptor_call-call.result c.args.transfer
    (c.descriptor_call-call.ensures ∙ sym (ap (λ (seen : Managed). call_of seen.state c.args.transfer) c.self.view_is))
    ∙ ap (λ (seen : Managed). asks_back seen.state c.args.transfer) c.self.view_is
    ∙ c.requires

pub invariant_of-self : goal.invariant_of-self
invariant_of-self g c =
    let x = parts_of g.M.PhysMem.ram c.self.inside in
    back-machine x c.self.invariant c.runner-runner.result c.runner-runner.ensures.runner c.descriptor_call-call.result c.args.transfer
    (c.descriptor_call-call.ensures ∙ sym (ap (λ (seen : Managed). call_of seen.state c.args.transfer) c.self.view_is))
    (ap (λ (seen : Managed). asks_back seen.state c.args.transfer) c.self.view_is ∙ c.requires)
    (g.M.PhysMem.ram c.read_back-told.new.ram) c.read_back-told.new.buffers c.read_back-told.result
    c.read_back-told.ensures.refusal c.read_back-told.ensures.kept_buffers c.read_back-told.ensures.kept_ram c.read_back-told.ensures.full c.read_back-told.ensures.done

pub returns : goal.returns
returns g c =
    let x = parts_of g.M.PhysMem.ram c.self.inside in
    let r = c.read_back-told.result in
    let new = g.M.PhysMem.ram c.read_back-told.new.ram in
    let later = g.M.PhysMem.past c.read_back-told.new.ram in
    let y : Parts = record x { ram = new; kept = record x.kept { buffers = c.read_back-told.new.buffers } } in
    let call = c.descriptor_call-call.ensures ∙ sym (ap (λ (seen : Managed). call_of seen.state c.args.transfer) c.self.view_is) in
    let back = ap (λ (seen : Managed). asks_back seen.state c.args.transfer) c.self.view_is ∙ c.requires in
    let said : c.match-told.result ≡ reply_of Retrieved r =
    elim c.match-told.branch [
      | in-Ok w ↦ w.result-is ∙ ap (reply_of Retrieved) (sym w.in-Ok.is)
      | in-Err w ↦ w.result-is ∙ ap (reply_of Retrieved) (sym w.in-Err.is)
    ]
    in
    replied-with x y c.args.self.now c.self.view_is (λ (s : State). hypervisor_retrieve s c.args.transfer) c.match-told.result later
    (ap (replied (state_of y)) said
    ∙ back-served x c.self.invariant c.runner-runner.result c.runner-runner.ensures.runner c.descriptor_call-call.result c.args.transfer call back new c.read_back-told.new.buffers r
    c.read_back-told.ensures.refusal c.read_back-told.ensures.kept_buffers c.read_back-told.ensures.kept_ram c.read_back-told.ensures.full c.read_back-told.ensures.done)
    (refused-told Retrieved r c.match-told.result said (λ size. refl)
    (unchanged x c.self.invariant c.runner-runner.result c.runner-runner.ensures.runner c.descriptor_call-call.result c.args.transfer call back new c.read_back-told.new.buffers r
    c.read_back-told.ensures.refusal c.read_back-told.ensures.kept_buffers c.read_back-told.ensures.kept_ram c.read_back-told.ensures.full c.read_back-told.ensures.done))
    (refused-told Retrieved r c.match-told.result said (λ size. refl) c.read_back-told.ensures.kept_past)
    (back-unowned x c.self.invariant c.runner-runner.result c.runner-runner.ensures.runner c.descriptor_call-call.result c.args.transfer call back new c.read_back-told.new.buffers r
    c.read_back-told.ensures.refusal c.read_back-told.ensures.kept_buffers c.read_back-told.ensures.kept_ram c.read_back-told.ensures.full c.read_back-told.ensures.done)
    (rx-moments x c.self.invariant c.runner-runner.result.0 (runner-there x c.self.invariant c.runner-runner.result.0 c.runner-runner.ensures.runner) new
    (back-tables x c.self.invariant c.runner-runner.result c.runner-runner.ensures.runner c.descriptor_call-call.result c.args.transfer call back new c.read_back-told.new.buffers r
    c.read_back-told.ensures.refusal c.read_back-told.ensures.kept_buffers c.read_back-told.ensures.kept_ram c.read_back-told.ensures.full c.read_back-told.ensures.done)
    _ later (g.met.M.PhysMem.in_turn c.read_back-told.new.ram) c.read_back-told.ensures.steps)
    (λ _. loans_of 1) c.read_back-told.ensures.few
