-- SPDX-License-Identifier: MIT OR Apache-2.0
use Rattle.std.proofs.Common.{◌∙◌, ◌<◌, ℕ, length, sym, ap, subst}
use Rattle.ffa_model.specs.State.{owner_of}
use Rattle.ffa_spmc.specs.Managed.{Managed}
use Rattle.ffa_spmc.proofs.Held.{owner-is, owners-size, size_is}
use Rattle.ffa_spmc.proofs.Inside.{parts_of}
use Rattle.ffa_spmc.proofs.manager.Manager.owner_of.Goals as goal

pub owner_of-requires : goal.owner_of-requires
owner_of-requires g c =
    let x = parts_of g.M.PhysMem.ram c.self.inside in
    subst (λ (n : ℕ). c.args.page.0 < n) (size_is x ∙ sym (owners-size x c.self.invariant)) (subst (λ (seen : Managed). c.args.page.0 < length seen.state.pages) (sym c.self.view_is) c.requires)

pub returns : goal.returns
returns g c =
    let x = parts_of g.M.PhysMem.ram c.self.inside in
    c.owner_of.ensures
    ∙ sym (owner-is x c.self.invariant c.args.page.0)
    ∙ ap (λ (seen : Managed). owner_of seen.state c.args.page.0) c.self.view_is
