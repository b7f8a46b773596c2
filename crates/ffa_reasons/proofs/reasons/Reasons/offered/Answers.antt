-- SPDX-License-Identifier: MIT OR Apache-2.0
use Rattle.std.proofs.Common.{◌∙◌, ◌<◌, ℕ, length, Option, sym, ap, subst}
use Rattle.ffa_mend.specs.Offered.{offered, offered_by}
use Rattle.ffa_memshare.proofs.Asks.{shared-placed}
use Rattle.ffa_memshare.specs.Stored.{named_in}
use Rattle.ffa_model.specs.Access.{Ownership, ownership_of}
use Rattle.ffa_model.specs.State.{State, Transaction}
use Rattle.ffa_pages.specs.Entry.{slot_at}
use Rattle.ffa_rxtx.specs.Parts.{ownership_in}
use Rattle.ffa_spmc.proofs.Held.{owners-size, size_is}
use Rattle.ffa_spmc.specs.Lent.{lent_parts}
use Rattle.ffa_spmc.specs.Meaning.{state_of}
use Rattle.ffa_spmc.proofs.Pools.{ownership-is, pool-shared, transaction-kept}
use Rattle.ffa_reasons.proofs.reasons.Reasons.offered.Goals as goal

pub offered_at-requires-clause-placed : goal.offered_at-requires-clause-placed
offered_at-requires-clause-placed g c =
    let x = lent_parts g.M.PhysMem.ram c.self.inside.parts in
    shared-placed (pool-shared x c.self.invariant.managed)

pub offered_at-requires-clause-inside : goal.offered_at-requires-clause-inside
offered_at-requires-clause-inside g c =
    let x = lent_parts g.M.PhysMem.ram c.self.inside.parts in
    let view = c.self.invariant.state ∙ c.self.view_is in
    subst (λ (n : ℕ). c.args.page.0 < n) (size_is x ∙ sym (owners-size x c.self.invariant.managed)) (subst (λ (s : State). c.args.page.0 < length s.pages) (sym view) c.requires)

pub returns : goal.returns
returns g c =
    let x = lent_parts g.M.PhysMem.ram c.self.inside.parts in
    let view = c.self.invariant.state ∙ c.self.view_is in
    let machine = c.self.invariant.managed in
    let e = c.args.endpoint.0 in
    let p = c.args.page.0 in
    let inside = subst (λ (n : ℕ). p < n) (size_is x) (subst (λ (s : State). p < length s.pages) (sym view) c.requires) in
    c.offered_at.ensures
    ∙ ap (λ (ram : Ownership). offered_by ram e (named_in x.kept.pool.slots (slot_at x.kept.pages p))) (ap (ownership_in x.kept.pages) machine.layout.base ∙ ownership-is x machine)
    ∙ sym (ap (λ (o : Option Transaction). offered_by (ownership_of (state_of x)) e o) (transaction-kept x machine p inside))
    ∙ ap (λ (s : State). offered s e p) view
