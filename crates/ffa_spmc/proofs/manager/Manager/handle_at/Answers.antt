-- SPDX-License-Identifier: MIT OR Apache-2.0
use Rattle.std.proofs.Common.{◌∙◌, ◌<◌, ℕ, length, sym, ap, subst}
use Rattle.ffa_model.specs.Access.{handle_at}
use Rattle.ffa_spmc.specs.Managed.{Managed}
use Rattle.ffa_spmc.proofs.Held.{owners-size, size_is}
use Rattle.ffa_spmc.proofs.Inside.{parts_of}
use Rattle.ffa_spmc.proofs.Pools.{handle-kept}
use Rattle.ffa_spmc.proofs.manager.Manager.handle_at.Goals as goal

pub handle_at-requires : goal.handle_at-requires
handle_at-requires g c =
    let x = parts_of g.M.PhysMem.ram c.self.inside in
    subst (λ (n : ℕ). c.args.page.0 < n) (size_is x ∙ sym (owners-size x c.self.invariant)) (subst (λ (seen : Managed). c.args.page.0 < length seen.state.pages) (sym c.self.view_is) c.requires)

pub returns : goal.returns
returns g c =
    let x = parts_of g.M.PhysMem.ram c.self.inside in
    let inside = subst (λ (n : ℕ). c.args.page.0 < n) (size_is x) (subst (λ (seen : Managed). c.args.page.0 < length seen.state.pages) (sym c.self.view_is) c.requires) in
    c.handle_at.ensures
    ∙ sym (handle-kept x c.self.invariant c.args.page.0 inside)
    ∙ ap (λ (seen : Managed). handle_at seen.state c.args.page.0) c.self.view_is
