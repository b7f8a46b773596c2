-- SPDX-License-Identifier: MIT OR Apache-2.0
use Rattle.ffa_model.specs.MemoryReturn.{memory_reclaim}
use Rattle.ffa_model.specs.declared.call.Call.TheVariants.{MemReclaim}
use Rattle.ffa_spmc.specs.Work.{call_work}
use Rattle.ffa_spmc.specs.Meaning.{Parts}
use Rattle.ffa_spmc.proofs.Answered.{done-so}
use Rattle.ffa_spmc.proofs.Replied.{told-of, told-with, kept-memory}
use Rattle.ffa_model.specs.State.{State}
use Rattle.ffa_spmc.proofs.Inside.{parts_of}
use Rattle.ffa_spmc.proofs.Moments.{moments-of}
use Rattle.ffa_spmc.proofs.Pools.{pool-shared}
use Rattle.ffa_spmc.proofs.Reclaims.{reclaim-changes, reclaim-few, reclaim-machine, reclaim-served, reclaim-unowned}
use Rattle.ffa_spmc.proofs.manager.Manager.pool_reclaim.Goals as goal

pub reclaim-requires : goal.reclaim-requires
reclaim-requires g c =
    let x = parts_of g.M.PhysMem.ram c.self.inside in
    pool-shared x c.self.invariant

pub invariant_of-self : goal.invariant_of-self
invariant_of-self g c =
    let x = parts_of g.M.PhysMem.ram c.self.inside in
    (reclaim-machine x c.self.invariant c.runner-runner.result.0 c.runner-runner.ensures.runner c.args.handle.0 c.args.flags
    (g.M.PhysMem.ram c.reclaim.new.ram) c.reclaim.new.pages c.reclaim.new.self c.reclaim.result c.reclaim.new.news c.reclaim.ensures.refusal
    c.reclaim.ensures.kept c.reclaim.ensures.kept_pages c.reclaim.ensures.kept_ram c.reclaim.ensures.nothing
    c.reclaim.ensures.slot c.reclaim.ensures.open_transactions c.reclaim.ensures.ram c.reclaim.ensures.pages c.reclaim.ensures.changed)

pub returns-clause-done : goal.returns-clause-done
returns-clause-done g c =
    let x = parts_of g.M.PhysMem.ram c.self.inside in
    let y : Parts = record x { ram = g.M.PhysMem.ram c.reclaim.new.ram; kept = record x.kept { pages = c.reclaim.new.pages; pool = c.reclaim.new.self } } in
    (told-with x y c.args.self.now c.self.view_is (λ (s : State). memory_reclaim s c.args.handle.0 c.args.flags) c.reclaim.result c.reclaim.new.news
    (g.M.PhysMem.past c.reclaim.new.ram)
    (reclaim-served x c.self.invariant c.runner-runner.result.0 c.runner-runner.ensures.runner c.args.handle.0 c.args.flags
    (g.M.PhysMem.ram c.reclaim.new.ram) c.reclaim.new.pages c.reclaim.new.self c.reclaim.result c.reclaim.new.news c.reclaim.ensures.refusal
    c.reclaim.ensures.kept c.reclaim.ensures.kept_pages c.reclaim.ensures.kept_ram c.reclaim.ensures.nothing
    c.reclaim.ensures.slot c.reclaim.ensures.open_transactions c.reclaim.ensures.ram c.reclaim.ensures.pages c.reclaim.ensures.changed)
    (kept-memory x c.reclaim.result (g.M.PhysMem.ram c.reclaim.new.ram) c.reclaim.new.pages c.reclaim.new.self
    c.reclaim.ensures.kept_ram c.reclaim.ensures.kept_pages c.reclaim.ensures.kept)
    c.reclaim.ensures.kept_past
    (reclaim-unowned x c.self.invariant c.runner-runner.result.0 c.runner-runner.ensures.runner c.args.handle.0 c.args.flags
    (g.M.PhysMem.ram c.reclaim.new.ram) c.reclaim.new.pages c.reclaim.new.self c.reclaim.result c.reclaim.new.news c.reclaim.ensures.refusal
    c.reclaim.ensures.kept c.reclaim.ensures.kept_pages c.reclaim.ensures.kept_ram c.reclaim.ensures.nothing
    c.reclaim.ensures.slot c.reclaim.ensures.open_transactions c.reclaim.ensures.ram c.reclaim.ensures.pages c.reclaim.ensures.changed)
    (moments-of x c.self.invariant (g.M.PhysMem.ram c.reclaim.new.ram) _ _ (g.met.M.PhysMem.in_turn c.reclaim.new.ram) c.reclaim.ensures.steps c.reclaim.ensures.ended)
    (reclaim-changes x c.self.invariant c.runner-runner.result.0 c.runner-runner.ensures.runner c.args.handle.0 c.args.flags
    (g.M.PhysMem.ram c.reclaim.new.ram) c.reclaim.new.pages c.reclaim.new.self c.reclaim.result c.reclaim.new.news c.reclaim.ensures.refusal
    c.reclaim.ensures.kept c.reclaim.ensures.kept_pages c.reclaim.ensures.kept_ram c.reclaim.ensures.nothing
    c.reclaim.ensures.slot c.reclaim.ensures.open_transactions c.reclaim.ensures.ram c.reclaim.ensures.pages c.reclaim.ensures.changed)
    (λ (s : State). call_work s (MemReclaim c.args.handle c.args.flags))
    (reclaim-few x c.self.invariant c.runner-runner.result.0 c.runner-runner.ensures.runner c.args.handle.0 c.args.flags
    (g.M.PhysMem.ram c.reclaim.new.ram) c.reclaim.new.pages c.reclaim.new.self c.reclaim.result c.reclaim.new.news c.reclaim.ensures.refusal
    c.reclaim.ensures.kept c.reclaim.ensures.kept_pages c.reclaim.ensures.kept_ram c.reclaim.ensures.nothing
    c.reclaim.ensures.slot c.reclaim.ensures.open_transactions c.reclaim.ensures.ram c.reclaim.ensures.pages c.reclaim.ensures.changed
    _ (g.M.PhysMem.past c.reclaim.new.ram) c.reclaim.ensures.kept_past c.reclaim.ensures.few))

pub returns-clause-told : goal.returns-clause-told
returns-clause-told g c =
    told-of c.reclaim.result c.args.news.now c.reclaim.new.news c.reclaim.ensures.kept_news
    (done-so c.reclaim.result (λ none is. (_, is)) c.reclaim.ensures.changed)
