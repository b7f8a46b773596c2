-- SPDX-License-Identifier: MIT OR Apache-2.0
use Rattle.std.proofs.Common.{◌∙◌, ◌<◌, ℕ, length, Option, sym, ap, subst}
use Rattle.ffa_model.specs.Access.{is_held_by, transaction_at}
use Rattle.ffa_model.specs.State.{State, Transaction}
use Rattle.ffa_spmc.proofs.Held.{owners-size, size_is}
use Rattle.ffa_spmc.specs.Lent.{lent_parts}
use Rattle.ffa_spmc.proofs.Pools.{transaction-kept}
use Rattle.ffa_reasons.proofs.reasons.Reasons.is_held_at.Goals as goal

pub is_held_at-requires : goal.is_held_at-requires
is_held_at-requires g c =
    let x = lent_parts g.M.PhysMem.ram c.self.inside.parts in
    let view = c.self.invariant.state ∙ c.self.view_is in
    subst (λ (n : ℕ). c.args.page.0 < n) (size_is x ∙ sym (owners-size x c.self.invariant.managed)) (subst (λ (s : State). c.args.page.0 < length s.pages) (sym view) c.requires)

pub returns : goal.returns
returns g c =
    let x = lent_parts g.M.PhysMem.ram c.self.inside.parts in
    let view = c.self.invariant.state ∙ c.self.view_is in
    let inside = subst (λ (n : ℕ). c.args.page.0 < n) (size_is x) (subst (λ (s : State). c.args.page.0 < length s.pages) (sym view) c.requires) in
    c.is_held_at.ensures
    ∙ sym (ap (λ (o : Option Transaction). is_held_by c.args.endpoint.0 o) (transaction-kept x c.self.invariant.managed c.args.page.0 inside))
    ∙ ap (λ (s : State). is_held_by c.args.endpoint.0 (transaction_at s c.args.page.0)) view
