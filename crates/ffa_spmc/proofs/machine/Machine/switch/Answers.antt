-- SPDX-License-Identifier: MIT OR Apache-2.0
use Rattle.std.proofs.Common.{◌∙◌, ap, sym, subst}
use Rattle.ffa_model.specs.Processors.{with_switch}
use Rattle.ffa_model.specs.RunStates.{schedule_of}
use Rattle.ffa_model.specs.Sound.{MayGoOn, MayStop}
use Rattle.ffa_spmc.specs.Cached.{AreWalks}
use Rattle.ffa_spmc.specs.Clustered.{in_state}
use Rattle.ffa_spmc.specs.Managed.{Managed}
use Rattle.ffa_spmc.specs.Mixtures.{TablesRest}
use Rattle.ffa_spmc.specs.Snapshot.{Snapshot}
use Rattle.ffa_spmc.proofs.Switches.{rest-switched, walks-switched}
use Rattle.ffa_spmc.proofs.machine.Machine.switch.Goals as goal

pub switch-requires : goal.switch-requires
switch-requires g c = record {
  stops = subst (λ (seen : Snapshot). MayStop (schedule_of seen.state) c.args.status) (sym c.self.view_is) c.requires.stops;
  goes = subst (λ (seen : Snapshot). MayGoOn (schedule_of seen.state) c.args.endpoint.0) (sym c.self.view_is) c.requires.goes;
}

pub invariant_of-self : goal.invariant_of-self
invariant_of-self g c =
    let held = g.T.Translations.entries c.self.inside.cache in
    let news = c.self.inside.news in
    let m = c.self.inside.manager in
    let now : Snapshot = record { state = m.state; ram = m.ram; held = held; past = m.past; told = news } in
    subst (λ (m : Managed). AreWalks (record { state = m.state; ram = m.ram; held = held; past = m.past; told = news }) × TablesRest m.state m.ram m.past) (sym c.switch.ensures)
    (walks-switched now c.args.status c.args.endpoint.0 c.self.invariant.0, rest-switched now c.args.status c.args.endpoint.0 c.self.invariant.1)

pub returns : goal.returns
returns g c =
    let held = g.T.Translations.entries c.self.inside.cache in
    let news = c.self.inside.news in
    ap (λ (m : Managed). let x : Snapshot = record { state = m.state; ram = m.ram; held = held; past = m.past; told = news } in x) c.switch.ensures
    ∙ ap (λ (seen : Snapshot). in_state seen (with_switch seen.state c.args.status c.args.endpoint.0)) c.self.view_is
