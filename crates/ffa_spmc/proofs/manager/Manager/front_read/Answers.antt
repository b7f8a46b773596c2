-- SPDX-License-Identifier: MIT OR Apache-2.0
use Rattle.std.proofs.Common.{◌≡◌, None, false, ℕ, ◌∙◌, sym, subst}
use Rattle.ffa_model.specs.declared.operation.Op.{Op}
use Rattle.ffa_model.specs.State.{buffers_of}
use Rattle.ffa_spmc.specs.Among.{pages_read, reads_tx}
use Rattle.ffa_spmc.proofs.Readers.{front-none, reads-none}
use Rattle.ffa_spmc.proofs.manager.Manager.front_read.Goals as goal

pub returns-then-not-reads_tx-clause-pages : goal.returns-then-not-reads_tx-clause-pages
returns-then-not-reads_tx-clause-pages g c =
    let s = c.args.self.now.state in
    subst (λ (o : Op). None ≡ pages_read s o) (sym c.in-Call.is)
    (front-none (buffers_of s s.runner) _ (reads-none _ (subst (λ (n : ℕ). reads_tx n ≡ false) c.low.ensures
    (sym c.reads_tx.ensures ∙ c.if-not-reads_tx.true))))
