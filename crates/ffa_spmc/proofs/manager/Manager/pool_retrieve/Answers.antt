-- SPDX-License-Identifier: MIT OR Apache-2.0
use Rattle.std.proofs.Common.{◌∙◌, refl, sym, ap}
use Rattle.ffa_model.specs.State.{version_of, State}
use Rattle.ffa_model.specs.MemoryRetrieve.{receiver_retrieve, retrieve_read}
use Rattle.ffa_model.specs.HypervisorRetrieve.{asks_back}
use Rattle.ffa_spmc.specs.Work.{retrieve_work}
use Rattle.ffa_spmc.specs.Meaning.{Parts}
use Rattle.ffa_spmc.specs.Managed.{Managed}
use Rattle.ffa_spmc.proofs.Answered.{done-with}
use Rattle.ffa_spmc.proofs.Fills.{caller-is, runner-there}
use Rattle.ffa_spmc.proofs.Moments.{moments-of, rx-apart}
use Rattle.ffa_spmc.proofs.Replied.{told-of, told-with, kept-buffers}
use Rattle.ffa_memshare.specs.declared.descriptor_call.DescriptorCall.{DescriptorCall}
use Rattle.ffa_spmc.proofs.Inside.{parts_of}
use Rattle.ffa_spmc.proofs.Pools.{pool-shared}
use Rattle.ffa_spmc.proofs.Versions.{ffa-is}
use Rattle.ffa_spmc.proofs.Retrieves.{retrieve-changes, retrieve-few, retrieve-machine, retrieve-served, retrieve-unowned}
use Rattle.ffa_spmc.proofs.manager.Manager.pool_retrieve.Goals as goal

pub retrieve-requires-clause-shared : goal.retrieve-requires-clause-shared
retrieve-requires-clause-shared g c =
    let x = parts_of g.M.PhysMem.ram c.self.inside in
    pool-shared x c.self.invariant

pub retrieve-requires-clause-caller : goal.retrieve-requires-clause-caller
retrieve-requires-clause-caller g c =
    let x = parts_of g.M.PhysMem.ram c.self.inside in
    caller-is x c.self.invariant c.runner-runner.result.0 c.runner-runner.ensures.runner

pub invariant_of-self : goal.invariant_of-self
invariant_of-self g c =
    let x = parts_of g.M.PhysMem.ram c.self.inside in
    let own = ap (λ (seen : Managed). asks_back seen.state c.args.transfer) c.self.view_is ∙ c.requires in
    let its : DescriptorCall = record { transfer = c.args.transfer; ffa = x.manifest.ffa; version = c.version-version.result } in
    (retrieve-machine x c.self.invariant c.runner-runner.result c.runner-runner.ensures.runner its (sym (ffa-is x)) (c.version-version.ensures ∙ sym (ap (λ (seen : Managed). version_of seen.state seen.state.runner) c.self.view_is)) own
    (g.M.PhysMem.ram c.retrieve.new.ram) c.retrieve.new.pages c.retrieve.new.self c.retrieve.new.buffers
    c.retrieve.result c.retrieve.new.news c.retrieve.ensures.refusal c.retrieve.ensures.kept c.retrieve.ensures.kept_pages c.retrieve.ensures.kept_buffers c.retrieve.ensures.kept_ram
    c.retrieve.ensures.full c.retrieve.ensures.done)

pub returns-clause-done : goal.returns-clause-done
returns-clause-done g c =
    let x = parts_of g.M.PhysMem.ram c.self.inside in
    let own = ap (λ (seen : Managed). asks_back seen.state c.args.transfer) c.self.view_is ∙ c.requires in
    let its : DescriptorCall = record { transfer = c.args.transfer; ffa = x.manifest.ffa; version = c.version-version.result } in
    let apart = rx-apart x c.self.invariant c.runner-runner.result.0 (runner-there x c.self.invariant c.runner-runner.result.0 c.runner-runner.ensures.runner) in
    let y : Parts = record x { ram = g.M.PhysMem.ram c.retrieve.new.ram; kept = record x.kept { pages = c.retrieve.new.pages; pool = c.retrieve.new.self; buffers = c.retrieve.new.buffers } } in
    (told-with x y c.args.self.now c.self.view_is (λ (s : State). receiver_retrieve s c.args.transfer) c.retrieve.result c.retrieve.new.news
    (g.M.PhysMem.past c.retrieve.new.ram)
    (retrieve-served x c.self.invariant c.runner-runner.result c.runner-runner.ensures.runner its (sym (ffa-is x)) (c.version-version.ensures ∙ sym (ap (λ (seen : Managed). version_of seen.state seen.state.runner) c.self.view_is)) own
    (g.M.PhysMem.ram c.retrieve.new.ram) c.retrieve.new.pages c.retrieve.new.self c.retrieve.new.buffers
    c.retrieve.result c.retrieve.new.news c.retrieve.ensures.refusal c.retrieve.ensures.kept c.retrieve.ensures.kept_pages c.retrieve.ensures.kept_buffers c.retrieve.ensures.kept_ram
    c.retrieve.ensures.full c.retrieve.ensures.done)
    (kept-buffers x c.retrieve.result (g.M.PhysMem.ram c.retrieve.new.ram) c.retrieve.new.pages c.retrieve.new.self c.retrieve.new.buffers
    c.retrieve.ensures.kept_ram c.retrieve.ensures.kept_pages c.retrieve.ensures.kept c.retrieve.ensures.kept_buffers)
    c.retrieve.ensures.kept_past
    (retrieve-unowned x c.self.invariant c.runner-runner.result c.runner-runner.ensures.runner its (sym (ffa-is x)) (c.version-version.ensures ∙ sym (ap (λ (seen : Managed). version_of seen.state seen.state.runner) c.self.view_is)) own
    (g.M.PhysMem.ram c.retrieve.new.ram) c.retrieve.new.pages c.retrieve.new.self c.retrieve.new.buffers
    c.retrieve.result c.retrieve.new.news c.retrieve.ensures.refusal c.retrieve.ensures.kept c.retrieve.ensures.kept_pages c.retrieve.ensures.kept_buffers c.retrieve.ensures.kept_ram
    c.retrieve.ensures.full c.retrieve.ensures.done)
    (moments-of x c.self.invariant (g.M.PhysMem.ram c.retrieve.new.ram) _ _ (g.met.M.PhysMem.in_turn c.retrieve.new.ram)
    (c.retrieve.ensures.steps apart) (c.retrieve.ensures.ended apart))
    (retrieve-changes x c.self.invariant c.runner-runner.result c.runner-runner.ensures.runner its (sym (ffa-is x)) (c.version-version.ensures ∙ sym (ap (λ (seen : Managed). version_of seen.state seen.state.runner) c.self.view_is)) own
    (g.M.PhysMem.ram c.retrieve.new.ram) c.retrieve.new.pages c.retrieve.new.self c.retrieve.new.buffers
    c.retrieve.result c.retrieve.new.news c.retrieve.ensures.refusal c.retrieve.ensures.kept c.retrieve.ensures.kept_pages c.retrieve.ensures.kept_buffers c.retrieve.ensures.kept_ram
    c.retrieve.ensures.full c.retrieve.ensures.done)
    (λ (s : State). retrieve_work s (retrieve_read s c.args.transfer.total))
    (retrieve-few x c.self.invariant c.runner-runner.result c.runner-runner.ensures.runner its (sym (ffa-is x)) (c.version-version.ensures ∙ sym (ap (λ (seen : Managed). version_of seen.state seen.state.runner) c.self.view_is)) own
    (g.M.PhysMem.ram c.retrieve.new.ram) c.retrieve.new.pages c.retrieve.new.self c.retrieve.new.buffers
    c.retrieve.result c.retrieve.new.news c.retrieve.ensures.refusal c.retrieve.ensures.kept c.retrieve.ensures.kept_pages c.retrieve.ensures.kept_buffers c.retrieve.ensures.kept_ram
    c.retrieve.ensures.full c.retrieve.ensures.done
    _ (g.M.PhysMem.past c.retrieve.new.ram) c.retrieve.ensures.kept_past c.retrieve.ensures.few))

pub returns-clause-told : goal.returns-clause-told
returns-clause-told g c =
    told-of c.retrieve.result c.args.news.now c.retrieve.new.news c.retrieve.ensures.kept_news
    (done-with c.retrieve.result _ (λ value none its. (_, its.access)) c.retrieve.ensures.done)
