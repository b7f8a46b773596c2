-- SPDX-License-Identifier: MIT OR Apache-2.0
use Rattle.std.proofs.Common.{◌≡◌, ◌∙◌, ℕ, ◌<◌, true, length, sym, ap, subst}
use Rattle.ffa_model.specs.Agreement.{root}
use Rattle.ffa_model.specs.Manifest.{root_of}
use Rattle.ffa_model.specs.Walk.{is_page_address}
use Rattle.ffa_spmc.specs.Managed.{Managed}
use Rattle.ffa_spmc.specs.Meaning.{access_by_place, state_of}
use Rattle.ffa_spmc.proofs.Agreements.{root-is}
use Rattle.ffa_spmc.proofs.Held.{parties_are}
use Rattle.ffa_spmc.proofs.Inside.{parts_of}
use Rattle.ffa_spmc.proofs.manager.Manager.root_at.Goals as goal

pub root-requires : goal.root-requires
root-requires g c =
    let x = parts_of g.M.PhysMem.ram c.self.inside in
    subst (λ (n : ℕ). c.args.place < n) (parties_are x) (subst (λ (seen : Managed). c.args.place < length seen.state.parties) (sym c.self.view_is) c.requires)

pub returns-clause-value : goal.returns-clause-value
returns-clause-value g c =
    let x = parts_of g.M.PhysMem.ram c.self.inside in
    c.root.ensures
    ∙ ap (λ (base : ℕ). root_of base x.manifest.tables.0 x.manifest.ram_blocks c.args.place) (sym c.self.invariant.tables.base)
    ∙ sym (root-is x c.self.invariant c.args.place)
    ∙ ap (λ (seen : Managed). root seen.state c.args.place) c.self.view_is

pub returns-clause-page : goal.returns-clause-page
returns-clause-page g c =
    let x = parts_of g.M.PhysMem.ram c.self.inside in
    let inside = subst (λ (n : ℕ). c.args.place < n) (parties_are x) (subst (λ (seen : Managed). c.args.place < length seen.state.parties) (sym c.self.view_is) c.requires) in
    subst (λ (seen : Managed). is_page_address seen.ram c.root.result ≡ true) c.self.view_is
    (ap (is_page_address x.ram)
    (c.root.ensures ∙ ap (λ (base : ℕ). root_of base x.manifest.tables.0 x.manifest.ram_blocks c.args.place) (sym c.self.invariant.tables.base))
    ∙ c.self.invariant.laws.begin x.ram (length x.manifest.endpoints.items) x.manifest.tables.0 x.manifest.ram_blocks (access_by_place (state_of x)) c.args.place c.self.invariant.tables.built inside)
