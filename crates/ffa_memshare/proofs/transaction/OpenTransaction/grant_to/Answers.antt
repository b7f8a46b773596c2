-- SPDX-License-Identifier: MIT OR Apache-2.0
use Rattle.std.proofs.Common.{◌∙◌, ap, rules}
use Rattle.std.specs.Prelude.{◌==◌, is_some}
use Rattle.ffa_model.specs.declared.transaction.Receiver.{Receiver}
use Rattle.ffa_memshare.proofs.Receivers.{found_any}
use Rattle.ffa_memshare.proofs.transaction.OpenTransaction.grant_to.Goals as goal

pub returns-in_err-receiver-clause-known : goal.returns-in_err-receiver-clause-known
returns-in_err-receiver-clause-known c =
    let known = ap is_some c.receiver.ensures ∙ found_any (λ (r : Receiver). r.endpoint.0 == c.args.endpoint.0) c.args.self.now.receivers.items in
    search (rules, known)

pub returns-clause-known : goal.returns-clause-known
returns-clause-known c =
    let known = ap is_some c.receiver.ensures ∙ found_any (λ (r : Receiver). r.endpoint.0 == c.args.endpoint.0) c.args.self.now.receivers.items in
    search (rules, known)
