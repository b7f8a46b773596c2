-- SPDX-License-Identifier: MIT OR Apache-2.0
use Rattle.std.proofs.Common.{sym, subst}
use Rattle.ffa_model.specs.RunStates.{schedule_of}
use Rattle.ffa_model.specs.Sound.{MayGoOn, MayStop}
use Rattle.ffa_spmc.specs.Managed.{Managed}
use Rattle.ffa_spmc.proofs.Inside.{parts_of}
use Rattle.ffa_spmc.proofs.Switches.{machine-switched, view-switched}
use Rattle.ffa_spmc.proofs.manager.Manager.switch.Goals as goal

pub switch-requires : goal.switch-requires
switch-requires g c = record {
  stops = subst (λ (seen : Managed). MayStop (schedule_of seen.state) c.args.status) (sym c.self.view_is) c.requires.stops;
  goes = subst (λ (seen : Managed). MayGoOn (schedule_of seen.state) c.args.endpoint.0) (sym c.self.view_is) c.requires.goes;
}

pub invariant_of-self : goal.invariant_of-self
invariant_of-self g c =
    let x = parts_of g.M.PhysMem.ram c.self.inside in
    machine-switched x c.args.status c.args.endpoint.0 c.switch.new.self c.switch.ensures.changed c.self.invariant
    (subst (λ (seen : Managed). MayStop (schedule_of seen.state) c.args.status) (sym c.self.view_is) c.requires.stops)
    (subst (λ (seen : Managed). MayGoOn (schedule_of seen.state) c.args.endpoint.0) (sym c.self.view_is) c.requires.goes)

pub returns : goal.returns
returns g c =
    let x = parts_of g.M.PhysMem.ram c.self.inside in
    view-switched x c.args.status c.args.endpoint.0 c.switch.new.self c.switch.ensures.changed (g.M.PhysMem.past c.self.inside.ram) c.args.self.now c.self.view_is
