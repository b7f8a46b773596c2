-- SPDX-License-Identifier: MIT OR Apache-2.0
use Rattle.std.proofs.Common.{ℕ, ◌+◌, ◌≤◌, length, refl, sym, subst}
use Rattle.std.specs.Prelude.{IsSome}
use Rattle.ffa_model.specs.declared.limits.TheConstants.{MOST_BUFFER_PAGES}
use Rattle.ffa_model.specs.State.{page_at}
use Rattle.ffa_spmc.specs.Managed.{Managed}
use Rattle.ffa_spmc.specs.Unowned.{IsNoTable}
use Rattle.ffa_spmc.proofs.Inside.{parts_of}
use Rattle.ffa_spmc.proofs.Readings.{front-aside, front-few, front-owned, front-within}
use Rattle.ffa_spmc.proofs.manager.Manager.front_of_tx.Goals as goal

pub returns-clause-within : goal.returns-clause-within
returns-clause-within g c =
    let x = parts_of g.M.PhysMem.ram c.self.inside in
    let mapped = c.in_ok-mapped.mapped in
    subst (λ (seen : Managed). mapped.tx.0 + c.pages_holding-count.result ≤ length seen.ram.pages) c.self.view_is
    (subst (λ (n : ℕ). mapped.tx.0 + n ≤ length x.ram.pages) (sym c.pages_holding-count.ensures)
    (front-within x c.self.invariant c.runner.result.0 c.bytes_read-bytes.result c.runner.ensures.runner _ (sym c.in_ok-mapped.ensures)))

pub returns-clause-few : goal.returns-clause-few
returns-clause-few g c =
    let x = parts_of g.M.PhysMem.ram c.self.inside in
    subst (λ (n : ℕ). n ≤ MOST_BUFFER_PAGES) (sym c.pages_holding-count.ensures)
    (front-few x c.self.invariant c.runner.result.0 c.bytes_read-bytes.result c.runner.ensures.runner _ (sym c.in_ok-mapped.ensures))

pub returns-clause-aside : goal.returns-clause-aside
returns-clause-aside g c = λ p its.
    let x = parts_of g.M.PhysMem.ram c.self.inside in
    subst (λ (seen : Managed). IsNoTable seen.state p) c.self.view_is
    (front-aside x c.self.invariant c.runner.result.0 c.bytes_read-bytes.result c.runner.ensures.runner _ (sym c.in_ok-mapped.ensures)
    (record { first = c.in_ok-mapped.mapped.tx; count = c.pages_holding-count.result }) refl c.pages_holding-count.ensures p its)

pub returns-clause-owned : goal.returns-clause-owned
returns-clause-owned g c = λ p its.
    let x = parts_of g.M.PhysMem.ram c.self.inside in
    subst (λ (seen : Managed). IsSome (page_at seen.state p)) c.self.view_is
    (front-owned x c.self.invariant c.runner.result.0 c.bytes_read-bytes.result c.runner.ensures.runner _ (sym c.in_ok-mapped.ensures)
    (record { first = c.in_ok-mapped.mapped.tx; count = c.pages_holding-count.result }) refl c.pages_holding-count.ensures p its)
