-- SPDX-License-Identifier: MIT OR Apache-2.0
use Rattle.ffa_model.specs.MemoryReturn.{memory_relinquish, relinquish_read}
use Rattle.ffa_spmc.specs.Work.{relinquish_work}
use Rattle.ffa_spmc.specs.Meaning.{Parts}
use Rattle.ffa_spmc.proofs.Fills.{caller-is}
use Rattle.ffa_spmc.proofs.Answered.{done-so, refused-both}
use Rattle.ffa_spmc.proofs.Replied.{told-of, told-with}
use Rattle.ffa_model.specs.State.{State}
use Rattle.ffa_spmc.proofs.Inside.{parts_of}
use Rattle.ffa_spmc.proofs.Moments.{moments-of}
use Rattle.ffa_spmc.proofs.Pools.{pool-shared}
use Rattle.ffa_spmc.proofs.Relinquishes.{relinquish-changes, relinquish-few, relinquish-machine, relinquish-served, relinquish-unowned}
use Rattle.ffa_spmc.proofs.manager.Manager.pool_relinquish.Goals as goal

pub relinquish-requires-clause-shared : goal.relinquish-requires-clause-shared
relinquish-requires-clause-shared g c =
    let x = parts_of g.M.PhysMem.ram c.self.inside in
    pool-shared x c.self.invariant

pub relinquish-requires-clause-caller : goal.relinquish-requires-clause-caller
relinquish-requires-clause-caller g c =
    let x = parts_of g.M.PhysMem.ram c.self.inside in
    caller-is x c.self.invariant c.runner-runner.result.0 c.runner-runner.ensures.runner

pub invariant_of-self : goal.invariant_of-self
invariant_of-self g c =
    let x = parts_of g.M.PhysMem.ram c.self.inside in
    (relinquish-machine x c.self.invariant c.runner-runner.result.0 c.runner-runner.ensures.runner (g.M.PhysMem.ram c.relinquish.new.ram) c.relinquish.new.self
    c.relinquish.result c.relinquish.new.news c.relinquish.ensures.refusal c.relinquish.ensures.kept c.relinquish.ensures.kept_ram c.relinquish.ensures.nothing c.relinquish.ensures.done)

pub returns-clause-done : goal.returns-clause-done
returns-clause-done g c =
    let x = parts_of g.M.PhysMem.ram c.self.inside in
    let y : Parts = record x { ram = g.M.PhysMem.ram c.relinquish.new.ram; kept = record x.kept { pool = c.relinquish.new.self } } in
    (told-with x y c.args.self.now c.self.view_is (λ (s : State). memory_relinquish s) c.relinquish.result c.relinquish.new.news
    (g.M.PhysMem.past c.relinquish.new.ram)
    (relinquish-served x c.self.invariant c.runner-runner.result.0 c.runner-runner.ensures.runner (g.M.PhysMem.ram c.relinquish.new.ram) c.relinquish.new.self
    c.relinquish.result c.relinquish.new.news c.relinquish.ensures.refusal c.relinquish.ensures.kept c.relinquish.ensures.kept_ram c.relinquish.ensures.nothing c.relinquish.ensures.done)
    (refused-both c.relinquish.result (λ a b i. record x { ram = a i; kept = record x.kept { pool = b i } }) c.relinquish.ensures.kept_ram c.relinquish.ensures.kept)
    c.relinquish.ensures.kept_past
    (relinquish-unowned x c.self.invariant c.runner-runner.result.0 c.runner-runner.ensures.runner (g.M.PhysMem.ram c.relinquish.new.ram) c.relinquish.new.self
    c.relinquish.result c.relinquish.new.news c.relinquish.ensures.refusal c.relinquish.ensures.kept c.relinquish.ensures.kept_ram c.relinquish.ensures.nothing c.relinquish.ensures.done)
    (moments-of x c.self.invariant (g.M.PhysMem.ram c.relinquish.new.ram) _ _ (g.met.M.PhysMem.in_turn c.relinquish.new.ram) c.relinquish.ensures.steps c.relinquish.ensures.ended)
    (relinquish-changes x c.self.invariant c.runner-runner.result.0 c.runner-runner.ensures.runner (g.M.PhysMem.ram c.relinquish.new.ram) c.relinquish.new.self
    c.relinquish.result c.relinquish.new.news c.relinquish.ensures.refusal c.relinquish.ensures.kept c.relinquish.ensures.kept_ram c.relinquish.ensures.nothing c.relinquish.ensures.done)
    (λ (s : State). relinquish_work s (relinquish_read s))
    (relinquish-few x c.self.invariant c.runner-runner.result.0 c.runner-runner.ensures.runner (g.M.PhysMem.ram c.relinquish.new.ram) c.relinquish.new.self
    c.relinquish.result c.relinquish.new.news c.relinquish.ensures.refusal c.relinquish.ensures.kept c.relinquish.ensures.kept_ram c.relinquish.ensures.nothing c.relinquish.ensures.done
    _ (g.M.PhysMem.past c.relinquish.new.ram) c.relinquish.ensures.kept_past c.relinquish.ensures.few))

pub returns-clause-told : goal.returns-clause-told
returns-clause-told g c =
    told-of c.relinquish.result c.args.news.now c.relinquish.new.news c.relinquish.ensures.kept_news
    (done-so c.relinquish.result (λ none its. (_, its.access)) c.relinquish.ensures.done)
