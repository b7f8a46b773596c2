-- SPDX-License-Identifier: MIT OR Apache-2.0
use Rattle.std.proofs.Common.{◌∙◌, refl, sym, ap}
use Rattle.ffa_model.specs.State.{version_of, State}
use Rattle.ffa_model.specs.MemorySend.{memory_send, send_read}
use Rattle.ffa_spmc.specs.Work.{send_work}
use Rattle.ffa_spmc.specs.Meaning.{Parts}
use Rattle.ffa_spmc.specs.Managed.{Managed}
use Rattle.ffa_spmc.proofs.Answered.{done-so}
use Rattle.ffa_spmc.proofs.Fills.{caller-is}
use Rattle.ffa_spmc.proofs.Replied.{told-of, told-with, kept-memory}
use Rattle.ffa_spmc.proofs.Inside.{parts_of}
use Rattle.ffa_spmc.proofs.Moments.{moments-of}
use Rattle.ffa_spmc.proofs.Offers.{offer-endpoints, offer-changes, offer-few, offer-machine, offer-served, offer-unowned}
use Rattle.ffa_spmc.proofs.manager.Manager.pool_send.Goals as goal

pub send-requires-clause-caller : goal.send-requires-clause-caller
send-requires-clause-caller g c =
    let x = parts_of g.M.PhysMem.ram c.self.inside in
    caller-is x c.self.invariant c.runner-runner.result.0 c.runner-runner.ensures.runner

pub send-requires-clause-endpoints : goal.send-requires-clause-endpoints
send-requires-clause-endpoints g c =
    let x = parts_of g.M.PhysMem.ram c.self.inside in
    offer-endpoints x c.self.invariant

pub invariant_of-self : goal.invariant_of-self
invariant_of-self g c =
    let x = parts_of g.M.PhysMem.ram c.self.inside in
    (offer-machine x c.self.invariant c.runner-runner.result.0 c.runner-runner.ensures.runner c.args.kind (record { transfer = c.args.transfer; ffa = x.manifest.ffa; version = c.version-version.result }) refl (c.version-version.ensures ∙ sym (ap (λ (seen : Managed). version_of seen.state seen.state.runner) c.self.view_is))
    (g.M.PhysMem.ram c.send.new.ram) c.send.new.pages c.send.new.self
    c.send.result c.send.new.news c.send.ensures.refusal c.send.ensures.kept c.send.ensures.kept_pages c.send.ensures.kept_ram c.send.ensures.handle c.send.ensures.sent)

pub returns-clause-done : goal.returns-clause-done
returns-clause-done g c =
    let x = parts_of g.M.PhysMem.ram c.self.inside in
    let y : Parts = record x { ram = g.M.PhysMem.ram c.send.new.ram; kept = record x.kept { pages = c.send.new.pages; pool = c.send.new.self } } in
    (told-with x y c.args.self.now c.self.view_is (λ (s : State). memory_send s c.args.kind c.args.transfer) c.send.result c.send.new.news
    (g.M.PhysMem.past c.send.new.ram)
    (offer-served x c.self.invariant c.runner-runner.result.0 c.runner-runner.ensures.runner c.args.kind (record { transfer = c.args.transfer; ffa = x.manifest.ffa; version = c.version-version.result }) refl (c.version-version.ensures ∙ sym (ap (λ (seen : Managed). version_of seen.state seen.state.runner) c.self.view_is))
    (g.M.PhysMem.ram c.send.new.ram) c.send.new.pages c.send.new.self
    c.send.result c.send.new.news c.send.ensures.refusal c.send.ensures.kept c.send.ensures.kept_pages c.send.ensures.kept_ram c.send.ensures.handle c.send.ensures.sent)
    (kept-memory x c.send.result (g.M.PhysMem.ram c.send.new.ram) c.send.new.pages c.send.new.self
    c.send.ensures.kept_ram c.send.ensures.kept_pages c.send.ensures.kept)
    c.send.ensures.kept_past
    (offer-unowned x c.self.invariant c.runner-runner.result.0 c.runner-runner.ensures.runner c.args.kind (record { transfer = c.args.transfer; ffa = x.manifest.ffa; version = c.version-version.result }) refl (c.version-version.ensures ∙ sym (ap (λ (seen : Managed). version_of seen.state seen.state.runner) c.self.view_is))
    (g.M.PhysMem.ram c.send.new.ram) c.send.new.pages c.send.new.self
    c.send.result c.send.new.news c.send.ensures.refusal c.send.ensures.kept c.send.ensures.kept_pages c.send.ensures.kept_ram c.send.ensures.handle c.send.ensures.sent)
    (moments-of x c.self.invariant (g.M.PhysMem.ram c.send.new.ram) _ _ (g.met.M.PhysMem.in_turn c.send.new.ram) c.send.ensures.steps c.send.ensures.ended)
    (offer-changes x c.self.invariant c.runner-runner.result.0 c.runner-runner.ensures.runner c.args.kind (record { transfer = c.args.transfer; ffa = x.manifest.ffa; version = c.version-version.result }) refl (c.version-version.ensures ∙ sym (ap (λ (seen : Managed). version_of seen.state seen.state.runner) c.self.view_is))
    (g.M.PhysMem.ram c.send.new.ram) c.send.new.pages c.send.new.self
    c.send.result c.send.new.news c.send.ensures.refusal c.send.ensures.kept c.send.ensures.kept_pages c.send.ensures.kept_ram c.send.ensures.handle c.send.ensures.sent)
    (λ (s : State). send_work s c.args.kind (send_read s c.args.kind c.args.transfer.total))
    (offer-few x c.self.invariant c.runner-runner.result.0 c.runner-runner.ensures.runner c.args.kind (record { transfer = c.args.transfer; ffa = x.manifest.ffa; version = c.version-version.result }) refl (c.version-version.ensures ∙ sym (ap (λ (seen : Managed). version_of seen.state seen.state.runner) c.self.view_is))
    (g.M.PhysMem.ram c.send.new.ram) c.send.new.pages c.send.new.self
    c.send.result c.send.new.news c.send.ensures.refusal c.send.ensures.kept c.send.ensures.kept_pages c.send.ensures.kept_ram c.send.ensures.handle c.send.ensures.sent
    _ (g.M.PhysMem.past c.send.new.ram) c.send.ensures.kept_past c.send.ensures.few))

pub returns-clause-told : goal.returns-clause-told
returns-clause-told g c =
    told-of c.send.result c.args.news.now c.send.new.news c.send.ensures.kept_news
    (done-so c.send.result (λ none its. (_, its.access)) c.send.ensures.sent)
