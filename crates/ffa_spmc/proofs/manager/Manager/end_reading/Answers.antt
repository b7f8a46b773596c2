-- SPDX-License-Identifier: MIT OR Apache-2.0
use Rattle.std.proofs.Common.{◌≡◌, ◌∙◌, ℕ, ◌+◌, ◌≤◌, true, false, length, refl, sym, subst}
use Rattle.ffa_laws.specs.Reads.{AreBeside}
use Rattle.ffa_physmem.specs.Moments.{IsBeside, IsReading, OneMore, is_copied, memory_of, on_site_of}
use Rattle.ffa_spmc.specs.Among.{is_in}
use Rattle.ffa_spmc.specs.Managed.{Managed}
use Rattle.ffa_spmc.specs.Meaning.{state_of}
use Rattle.ffa_spmc.specs.Moments.{AreMoments}
use Rattle.ffa_spmc.specs.Unowned.{IsNoTable}
use Rattle.ffa_spmc.proofs.Held.{by-manifest}
use Rattle.ffa_spmc.proofs.Inside.{parts_of}
use Rattle.ffa_spmc.proofs.Moments.{reading-moments}
use Rattle.ffa_spmc.proofs.Readings.{machine-read, read, states-beside}
use Rattle.ffa_spmc.proofs.manager.Manager.end_reading.Goals as goal

pub release_in-requires-clause-within : goal.release_in-requires-clause-within
release_in-requires-clause-within g c = subst (λ (seen : Managed). c.args.run.first.0 + c.args.run.count ≤ length seen.ram.pages) (sym c.self.view_is) c.requires.within

pub release_in-requires-clause-only : goal.release_in-requires-clause-only
release_in-requires-clause-only g c =
    subst (λ (seen : Managed). (p : ℕ) → is_copied seen.past p ≡ true → is_in c.args.run p ≡ true) (sym c.self.view_is) c.requires.only

pub returns-clause-places : goal.returns-clause-places
returns-clause-places g c =
    subst (λ (seen : Managed). (g.M.PhysMem.past c.release_in.new.ram).site.places ≡ seen.past.site.places) c.self.view_is c.release_in.ensures.places

pub returns-clause-memory : goal.returns-clause-memory
returns-clause-memory g c = λ alone.
    let new = c.release_in.new.ram in
    let old = c.self.inside.ram in
    subst (λ (seen : Managed). memory_of (g.M.PhysMem.ram new) (g.M.PhysMem.past new) ≡ memory_of seen.ram seen.past) c.self.view_is
    (sym (g.met.M.PhysMem.beneath new) ∙ c.release_in.ensures.memory alone ∙ g.met.M.PhysMem.beneath old)

pub invariant_of-self : goal.invariant_of-self
invariant_of-self g c =
    let x = parts_of g.M.PhysMem.ram c.self.inside in
    machine-read x (g.M.PhysMem.ram c.release_in.new.ram) (is_in c.args.run) c.release_in.ensures.beside c.release_in.ensures.whole
    c.self.invariant c.release_in.ensures.bytes
    (λ p its. by-manifest x c.self.invariant p (subst (λ (seen : Managed). IsNoTable seen.state p) (sym c.self.view_is) (c.requires.aside p its)))

pub returns-clause-state : goal.returns-clause-state
returns-clause-state g c =
    let x = parts_of g.M.PhysMem.ram c.self.inside in
    let new = g.M.PhysMem.ram c.release_in.new.ram in
    subst (λ (seen : Managed). AreBeside seen.state (state_of (read x new (is_in c.args.run) c.release_in.ensures.beside)) (is_in c.args.run)) c.self.view_is
    (states-beside x new (is_in c.args.run) c.release_in.ensures.beside c.release_in.ensures.whole)

pub returns-clause-ram : goal.returns-clause-ram
returns-clause-ram g c =
    subst (λ (seen : Managed). IsBeside seen.ram (g.M.PhysMem.ram c.release_in.new.ram) (is_in c.args.run)) c.self.view_is
    c.release_in.ensures.beside

pub returns-clause-step : goal.returns-clause-step
returns-clause-step g c =
    let new = c.release_in.new.ram in
    subst
    (λ (seen : Managed). OneMore seen.past.steps (g.M.PhysMem.past new).steps (λ s. IsReading seen.ram (g.M.PhysMem.ram new) c.args.run.first.0 c.args.run.count false s))
    c.self.view_is c.release_in.ensures.steps

pub returns-clause-moments : goal.returns-clause-moments
returns-clause-moments g c =
    let x = parts_of g.M.PhysMem.ram c.self.inside in
    let new = g.M.PhysMem.ram c.release_in.new.ram in
    let past = g.M.PhysMem.past c.self.inside.ram in
    let later = g.M.PhysMem.past c.release_in.new.ram in
    subst (λ (seen : Managed). AreMoments seen.state seen.ram new seen.past (on_site_of seen.past later)) c.self.view_is
    (reading-moments x c.self.invariant new (is_in c.args.run) c.release_in.ensures.beside
    (λ p its. by-manifest x c.self.invariant p (subst (λ (seen : Managed). IsNoTable seen.state p) (sym c.self.view_is) (c.requires.aside p its)))
    past (on_site_of past later) c.args.run.first.0 c.args.run.count false (g.met.M.PhysMem.in_turn c.release_in.new.ram)
    (record { each = c.release_in.ensures.steps; site = refl }))
