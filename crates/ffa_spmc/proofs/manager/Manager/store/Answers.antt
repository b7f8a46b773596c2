-- SPDX-License-Identifier: MIT OR Apache-2.0
use Rattle.std.proofs.Common.{◌∙◌, subst, sym, Ok, Err}
use Rattle.ffa_physmem.specs.Work.{AddsAtMost, loans_of}
use Rattle.ffa_spmc.specs.Managed.{Managed}
use Rattle.ffa_spmc.proofs.Accesses.{answer-stored, machine-stored, moments-stored, offset-kept, state-stored, unowned-stored}
use Rattle.ffa_spmc.proofs.Inside.{parts_of}
use Rattle.ffa_spmc.proofs.manager.Manager.store.Goals as goal
use Rattle.ffa_spmc.proofs.manager.Manager.store.Goals.{in-Ok, in-Err}

pub store_at-requires : goal.store_at-requires
store_at-requires g c =
    let x = parts_of g.M.PhysMem.ram c.self.inside in
    record { offset = offset-kept x c.self.invariant c.args.self.now c.self.view_is c.args.addr c.args.walked c.requires }

pub invariant_of-self : goal.invariant_of-self
invariant_of-self g c =
    let x = parts_of g.M.PhysMem.ram c.self.inside in
    machine-stored x c.self.invariant c.args.self.now c.self.view_is c.args.addr c.args.walked c.requires
    c.args.size c.args.value (g.M.PhysMem.ram c.store_at.new.memory) c.store_at.ensures.stored

pub returns-clause-state : goal.returns-clause-state
returns-clause-state g c =
    let x = parts_of g.M.PhysMem.ram c.self.inside in
    state-stored x c.self.invariant c.args.self.now c.self.view_is c.args.addr c.args.walked c.requires
    c.args.size c.args.value (g.M.PhysMem.ram c.store_at.new.memory) c.store_at.ensures.stored

pub returns-clause-outcome : goal.returns-clause-outcome
returns-clause-outcome g c =
    let x = parts_of g.M.PhysMem.ram c.self.inside in
    elim c.match-store_at.branch [
      | in-Ok w ↦ w.result-is
          ∙ answer-stored x c.self.invariant c.args.self.now c.self.view_is c.args.addr c.args.walked c.requires
          c.args.size c.args.value (Ok tt) (sym w.in-Ok.is ∙ c.store_at.ensures.answer)
      | in-Err w ↦ w.result-is
          ∙ answer-stored x c.self.invariant c.args.self.now c.self.view_is c.args.addr c.args.walked c.requires
          c.args.size c.args.value (Err w.in-Err.fault) (sym w.in-Err.is ∙ c.store_at.ensures.answer)
    ]

pub returns-clause-unowned : goal.returns-clause-unowned
returns-clause-unowned g c =
    let x = parts_of g.M.PhysMem.ram c.self.inside in
    unowned-stored x c.self.invariant c.args.self.now c.self.view_is c.args.addr c.args.walked c.requires
    c.args.size c.args.value (g.M.PhysMem.ram c.store_at.new.memory) c.store_at.ensures.stored

pub returns-clause-moments : goal.returns-clause-moments
returns-clause-moments g c =
    let x = parts_of g.M.PhysMem.ram c.self.inside in
    moments-stored x c.self.invariant c.args.self.now c.self.view_is c.args.addr c.args.walked c.requires
    c.args.size c.args.value (g.M.PhysMem.ram c.store_at.new.memory) c.store_at.ensures.stored (g.M.PhysMem.past c.store_at.new.memory) (g.met.M.PhysMem.in_turn c.store_at.new.memory) c.store_at.ensures.steps

pub returns-clause-few : goal.returns-clause-few
returns-clause-few g c = subst (λ (seen : Managed). AddsAtMost seen.past (g.M.PhysMem.past c.store_at.new.memory) (loans_of 1)) c.self.view_is c.store_at.ensures.few
